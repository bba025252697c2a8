-- Words of inner contracts; no promise rests on them.
pub mod Inner

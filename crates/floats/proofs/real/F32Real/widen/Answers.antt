-- `widen` keeps the number, as the library does; no search is asked.
use Rattle.floats.proofs.real.F32Real.widen.Goals as goal

pub returns : goal.returns
returns c = c.f32_to_f64_with_nan.ensures

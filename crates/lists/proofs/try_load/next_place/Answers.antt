-- `next_place` meets its contract: each part by its function, on the state that was drawn.
use Rattle.std.specs.Prelude.{if◌then◌else◌}
use mathlib.Core.Path.{ap, ◌∙◌}
use Prim.Native.Nat.{ℕ, ◌+◌, ◌%◌}
use lib.Dec.{eqb}
use Rattle.lists.specs.Draws.{state_after}
use Rattle.lists.proofs.try_load.next_place.Goals as goal

pub pushes_after-pushes-requires : goal.pushes_after-pushes-requires
pushes_after-pushes-requires c = c.requires

pub returns : goal.returns
returns c =
    let a = c.args in
    let e = c.draw-s.ensures in (
      c.after-state.ensures ∙ ap (λ (s : ℕ). state_after a.dim (s % 5) s) e,
      c.pushes_after-pushes.ensures.0 ∙ ap (λ (s : ℕ). a.p.pushes + (if eqb (s % 5) 0 then 1 else 0)) e,
    )

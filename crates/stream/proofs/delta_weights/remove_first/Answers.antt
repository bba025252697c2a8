-- `delta_weights::remove_first` meets its contract: the first places hold what stood k places further on (`moved_down`, `removed` in Inserted.antt).
use mathlib.Core.Path.{◌∙◌}
use Prim.Native.Nat.{ℕ}
use native.Mathlib.Omega.{arith}
use lib.ListN.{get_or}
use lib.Ieee.{nan}
use Rattle.floats.specs.Operators.{at}
use Rattle.definition.specs.Changes.{Change}
use Rattle.program.specs.Rooms.{waiting_in}
use Rattle.stream.proofs.Inserted.{moved_down, removed}
use Rattle.stream.proofs.delta_weights.remove_first.Goals as goal

pub returns : goal.returns
unfolding waiting_in
returns c =
    let a = c.args in
    let fs = a.frames.now in
    let ws = a.weights.now in
    let g : ℕ → Change = λ j. (get_or fs j 0, at ws j) in (
      c.copy_within.ensures.after ∙ moved_down 0 fs a.k _ (omega arith) ∙ removed (λ d. d.0) g fs a.n a.k c.requires.within,
      c.copy_within-2.ensures.after ∙ moved_down nan ws a.k _ (omega arith) ∙ removed (λ d. d.1) g ws a.n a.k c.requires.within,
    )

-- `register_bytes::rewrite` meets its contract: the sixteen bytes are those that `rewritten` has (Bytes.antt).
use mathlib.Core.Path.{ap, ◌∙◌}
use mathlib.Core.List.{List}
use Prim.Native.Nat.{ℕ}
use lib.ListN.{get_or}
use Rattle.board.proofs.Bytes.{rewritten_is}
use Rattle.board.proofs.register_bytes.rewrite.Goals as goal

pub returns : goal.returns
returns c =
    let a = c.args in
    let at = λ (i : ℕ). ap (λ (l : List ℕ). get_or l i 0) c.to_le_bytes-count.ensures in
    c.copy_from_slice.ensures.after ∙ rewritten_is a.block.now a.low a.number a.held a.room c.from.ensures c.interrupt-line.ensures (at 0) (at 1) (at 2) (at 3)

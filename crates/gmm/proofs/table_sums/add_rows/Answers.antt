-- `add_rows` meets its contract, by the invariant in Invariants.antt (`pass_none`, `rows_turn` in Passes.antt).
use borrow.Author.Rules.{rules}
use Prim.Native.Nat.{◌+◌, ◌*◌}
use native.Mathlib.Omega.{arith}
use lib.ListN.{length}
use lib.Ieee.{nan}
use Rattle.loops.specs.Inner.{fill}
use Rattle.loops.proofs.Loop.{at_end}
use Rattle.floats.specs.Operators.{◌*₃₂◌, at, sum₃₂}
use Rattle.gmm.proofs.Passes.{pass_none, rows_turn}
use Rattle.gmm.proofs.table_sums.add_rows.Goals as goal

pub loop-k-init : goal.loop-k-init
loop-k-init g c = record { within = search rules; as_long = search rules; sums = λ f h. pass_none nan _ _ _ (omega arith) }

pub loop-k-preserved : goal.loop-k-preserved
loop-k-preserved g c =
    let a = c.args in
    let l = c.loop-k in
    record {
      within = search rules;
      as_long = search rules;
      sums = λ f h. rows_turn _ a.table.now a.x.now f a.sum.now l.k _ (omega arith) l.invariant.as_long (l.invariant.sums f h) (c.add_next-k.ensures.sums f h);
    }

pub returns : goal.returns
returns g c = λ f h.
    let l = c.loop-k in
    let a = c.args in
    let s = a.sum.now in
    at_end (λ k. fill (length s) (λ m. sum₃₂ (at s m) k (λ k. at a.table.now (k * length s + m) *₃₂ f (at a.x.now k))) s) l.k a.d l.invariant.within c.loop-k-test.false (l.invariant.sums f h)

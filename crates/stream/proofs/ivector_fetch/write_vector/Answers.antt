-- `write_vector` meets its contract, by the invariant in Invariants.antt and the laws of Vector.antt and of `fill`.
use mathlib.Core.Path.{refl, ap, ◌∙◌}
use Prim.Native.Nat.{ℕ}
use native.Mathlib.Omega.{arith}
use lib.ListN.{length, length-set}
use lib.Ieee.{Float, binary32, to_bits}
use Rattle.loops.proofs.Fill.{fill_none, fill_turn}
use Rattle.floats.specs.Operators.{at}
use Rattle.stream.specs.Inner.IvectorFetch.{fetched_at}
use Rattle.stream.proofs.Vector.{bad_none, bad_turn, bad_end, bits_end}
use Rattle.stream.proofs.ivector_fetch.write_vector.Goals.{Start}
use Rattle.stream.proofs.ivector_fetch.write_vector.Goals as goal

-- element k of the vector
abbrev element : Start → ℕ → Float
element c k = fetched_at c.args.prior_offset k (at c.args.current.now k)

pub loop-i-init : goal.loop-i-init
loop-i-init c = (omega arith, refl, fill_none _ _, bad_none (element (goal.at.loop-i-init c).Start), omega arith)

pub bounds-current-i : goal.bounds-current-i
bounds-current-i c = omega (arith, c.loop-i-test.true, c.requires.0)

pub bounds-out-i : goal.bounds-out-i
bounds-out-i c = omega (arith, c.loop-i-test.true, c.loop-i.invariant.1)

pub count_bad-bad-requires : goal.count_bad-bad-requires
count_bad-bad-requires c = omega (arith, c.loop-i.invariant.4, c.loop-i-test.true, c.requires.1)

pub loop-i-preserved : goal.loop-i-preserved
loop-i-preserved c =
    let was = c.loop-i.invariant in
    let i = c.loop-i.i in
    let within = c.loop-i-test.true in
    let bits_are = c.bits.ensures ∙ ap (to_bits binary32) c.fetched_at-v.ensures in (
      omega (arith, within),
      length-set c.loop-i.out i _ ∙ was.1,
      fill_turn _ i c.args.out.now (omega (arith, within)) was.2 bits_are,
      bad_turn (element (goal.at.loop-i-preserved c).Start) i was.3 c.fetched_at-v.ensures c.count_bad-bad.ensures.0,
      omega (arith, c.count_bad-bad.ensures.1, was.4),
    )

pub shape_of-out : goal.shape_of-out
shape_of-out c = c.loop-i.invariant.1

pub returns : goal.returns
returns c =
    let a = c.args in
    let was = c.loop-i.invariant in
    let i = c.loop-i.i in (
      bits_end (element (goal.at.returns c).Start) i (length a.out.now) a.out.now was.0 c.loop-i-test.false was.2,
      bad_end (element (goal.at.returns c).Start) i (length a.out.now) was.0 c.loop-i-test.false was.3,
    )

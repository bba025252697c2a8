-- `posteriors::next_above` meets its contract: what is found in four is the first from g on, since none in front of the four is above the cutoff (`none_on`, `next_on` in
-- Gathering.antt).
use Prim.Native.Nat.{ℕ}
use native.Mathlib.Omega.{arith}
use lib.ListN.{length}
use lib.Ieee.{lt}
use Rattle.floats.specs.Operators.{at}
use Rattle.gmm.proofs.Gathering.{none_on, next_on}
use Rattle.gmm.proofs.posteriors.next_above.Goals as goal

pub returns-in-Some-clause-first : goal.returns-in-Some-clause-first
returns-in-Some-clause-first c =
    let a = c.args in
    let v = c.loop-k.invariant in
    let first = rw c.in-Some.is at c.first_of_four.ensures.first in
    let near = rw c.in-Some.is at c.first_of_four.ensures.in_list in
    next_on (λ i. lt a.cutoff (at a.loglikes.now i)) a.g c.loop-k.k _ (length a.loglikes.now) c.in-Some.i v.0 near (omega (arith, near, c.loop-k-test.true)) v.2 first

pub returns-in-Some-first_of_four-clause-first : goal.returns-in-Some-first_of_four-clause-first
returns-in-Some-first_of_four-clause-first c =
    let a = c.args in
    let v = c.loop-k.invariant in
    let none = rw c.in_default.is at c.first_of_four.ensures.first in
    let first = rw c.in-Some-first_of_four.is at c.first_of_four-in-loop-k.ensures.first in
    let near = rw c.in-Some-first_of_four.is at c.first_of_four-in-loop-k.ensures.in_list in
    let test = λ (i : ℕ). lt a.cutoff (at a.loglikes.now i) in
    next_on test a.g _ _ (length a.loglikes.now) c.in-Some-first_of_four.i (omega (arith, v.0)) near (omega (arith, near, c.loop-k-test.true)) (none_on test a.g c.loop-k.k _ v.2 none.none) first

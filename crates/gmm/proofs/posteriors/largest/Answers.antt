-- `posteriors::largest` meets its contract: what is passed over is not above the largest, and what is found is (`top-past`, `top-turn`, `top-all` in Maximum.antt);
-- a rest that is gone over begins with the largest in front of it (`top-rest`).
use mathlib.Core.Path.{refl}
use native.Mathlib.Omega.{arith}
use Prim.Native.Nat.{◌+◌}
use lib.ListN.{length}
use lib.Ieee.{div, neg, of_bits}
use Rattle.gmm.specs.Inner.Posteriors.{top}
use Rattle.gmm.proofs.Maximum.{top-turn, top-past, top-rest, top-all, top-number}
use Rattle.gmm.proofs.posteriors.largest.Goals as goal

pub loop-j-init : goal.loop-j-init
unfolding div neg of_bits top
loop-j-init c = (omega arith, refl, omega arith)

pub loop-j-preserved : goal.loop-j-preserved
loop-j-preserved c =
    let ls = c.args.loglikes.now in
    let v = c.loop-j.invariant in
    let next = rw c.in-Some.is at c.next_above.ensures.first in
    let near = rw c.in-Some.is at c.next_above.ensures.in_list in
    (omega (arith, near), top-turn ls near (top-past ls c.loop-j.k c.in-Some.j next.from next.most next.none v.1) (rw (next.here near)), omega (arith, v.2, c.if-rises-eq16.false))

pub largest_of_rest-requires : goal.largest_of_rest-requires
largest_of_rest-requires c =
    let ls = c.args.loglikes.now in
    let v = c.loop-j.invariant in
    let next = rw c.in-Some.is at c.next_above.ensures.first in
    let near = rw c.in-Some.is at c.next_above.ensures.in_list in
    top-number _ (top-turn ls near (top-past ls c.loop-j.k c.in-Some.j next.from next.most next.none v.1) (rw (next.here near)))

pub returns-then-rises-eq16 : goal.returns-then-rises-eq16
returns-then-rises-eq16 c =
    let ls = c.args.loglikes.now in
    let v = c.loop-j.invariant in
    let next = rw c.in-Some.is at c.next_above.ensures.first in
    let near = rw c.in-Some.is at c.next_above.ensures.in_list in
    top-rest ls (c.in-Some.j + 1) (top-turn ls near (top-past ls c.loop-j.k c.in-Some.j next.from next.most next.none v.1) (rw (next.here near))) c.largest_of_rest.ensures

pub returns : goal.returns
returns c =
    let ls = c.args.loglikes.now in
    let next = rw c.in_default.is at c.next_above.ensures.first in
    top-all ls (top-past ls c.loop-j.k (length ls) next.from next.most next.none c.loop-j.invariant.1)

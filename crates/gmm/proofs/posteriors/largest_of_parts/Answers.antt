-- `posteriors::largest_of_parts` meets its contract. The loop's invariant: the largest of the first i of each part (`part-turn`, `part-whole`,
-- `joined_is` in Maximum.antt).
use borrow.Author.Rules.{rules}
use mathlib.Core.Path.{refl}
use Prim.Native.Nat.{◌≤◌, ◌<◌}
use native.Mathlib.Omega.{arith}
use lib.ListN.{length}
use lib.Ieee.{div, neg, of_bits}
use Rattle.gmm.specs.Inner.Posteriors.{top}
use Rattle.gmm.proofs.Maximum.{part-turn, part-whole, joined_is}
use Rattle.gmm.proofs.posteriors.largest_of_parts.Goals as goal

pub loop-i-init : goal.loop-i-init
unfolding div neg of_bits top
loop-i-init c = (search rules, search rules, refl, refl, refl, refl, refl, refl, refl, refl)

pub loop-i-preserved : goal.loop-i-preserved
loop-i-preserved c =
    let l = c.loop-i in
    let a = c.args in
    let p = c.requires in
    let t : l.i < length a.a.now = omega (arith, c.loop-i-test.true, l.invariant.1) in (
      search rules,
      l.invariant.1,
      part-turn a.a.now t refl l.invariant.2 c.above-ma.ensures,
      part-turn a.b.now t p.0 l.invariant.3 c.above-mb.ensures,
      part-turn a.c.now t p.1 l.invariant.4 c.above-mc.ensures,
      part-turn a.d.now t p.2 l.invariant.5 c.above-md.ensures,
      part-turn a.e.now t p.3 l.invariant.6 c.above-me.ensures,
      part-turn a.f.now t p.4 l.invariant.7 c.above-mf.ensures,
      part-turn a.g.now t p.5 l.invariant.8 c.above-mg.ensures,
      part-turn a.h.now t p.6 l.invariant.9 c.above-mh.ensures,
    )

pub returns : goal.returns
returns c =
    let l = c.loop-i in
    let a = c.args in
    let p = c.requires in
    let t : length a.a.now ≤ l.i = omega (arith, c.loop-i-test.false, l.invariant.1) in
    joined_is _ _ _ _ _ _ _ _ c.above-m.ensures c.above-m-2.ensures c.above-m-3.ensures c.above-m-4.ensures c.above-m-5.ensures c.above-m-6.ensures c.above.ensures
    (part-whole a.a.now t refl l.invariant.2) (part-whole a.b.now t p.0 l.invariant.3) (part-whole a.c.now t p.1 l.invariant.4) (part-whole a.d.now t p.2 l.invariant.5)
    (part-whole a.e.now t p.3 l.invariant.6) (part-whole a.f.now t p.4 l.invariant.7) (part-whole a.g.now t p.5 l.invariant.8) (part-whole a.h.now t p.6 l.invariant.9)

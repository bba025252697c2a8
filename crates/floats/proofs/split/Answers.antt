-- `split` gives digits and exponent of a pattern, `IsSplit`: a normal one's at once (`begun_normal`), a subnormal's by turns (`begun_subnormal`, `doubled`, `done`, all in
-- Splitting.antt).
use Rattle.std.proofs.Common.{arith}
use Rattle.floats.proofs.Splitting.{begun_normal, begun_subnormal, falls, doubled, done}
use Rattle.floats.proofs.split.Goals.{then-x-gt0, else-x-gt0}
use Rattle.floats.proofs.split.Goals as goal

pub overflow_add-q : goal.overflow_add-q
overflow_add-q c = omega arith

pub overflow_add-e : goal.overflow_add-e
overflow_add-e c = omega arith

pub loop-q-init : goal.loop-q-init
loop-q-init c =
    elim c.if-x-gt0.branch [
      | then-x-gt0 w ↦ begun_normal c.args.a c.if-x-gt0.q c.if-x-gt0.e c.requires.1 w.if-x-gt0.true w.q-is w.e-is
      | else-x-gt0 w ↦ begun_subnormal c.args.a c.if-x-gt0.q c.if-x-gt0.e c.requires.1 w.if-x-gt0.false w.q-is w.e-is
    ]

pub overflow_mul-q : goal.overflow_mul-q
overflow_mul-q c = omega arith

pub overflow_sub-e : goal.overflow_sub-e
overflow_sub-e c =
    let l = c.loop-q in
    omega (arith, falls c.args.a l.q l.e c.requires.0 l.invariant c.loop-q-test.true)

pub loop-q-smaller : goal.loop-q-smaller
loop-q-smaller c =
    let l = c.loop-q in
    omega (arith, falls c.args.a l.q l.e c.requires.0 l.invariant c.loop-q-test.true)

pub loop-q-preserved : goal.loop-q-preserved
loop-q-preserved c =
    let l = c.loop-q in
    doubled c.args.a l.q l.e c.requires.0 l.invariant c.loop-q-test.true

pub returns : goal.returns
returns c =
    let l = c.loop-q in
    done c.args.a l.q l.e c.requires.0 l.invariant c.loop-q-test.false

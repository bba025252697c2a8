-- `linear::cgd_turns` meets its contract: a turn by `next_turn`, the last by `last_turn`; with no turn left by `turns_end` (Turns.antt).
use mathlib.Core.Path.{sym, ap, ◌∙◌}
use Prim.Native.Nat.{ℕ, ◌+◌, ◌≤◌, ◌<◌, min}
use native.Mathlib.Nat.{min-le_left}
use native.Mathlib.Omega.{arith}
use borrow.Author.Tests.{ltb-true, ltb-false}
use Rattle.loops.specs.Lists.{build}
use Rattle.floats.specs.Operators.{◌-₆₄◌, ◌*₆₄◌, ◌/₆₄◌, at}
use Rattle.algebra.proofs.Turns.{no_turn, turns_end, next_turn, last_turn}
use Rattle.algebra.proofs.linear.cgd_turns.Goals as goal

pub loop-before-init : goal.loop-before-init
loop-before-init c =
    let q = c.requires in
    record { most = omega (arith, q.no_turn); x_long = q.x_long; r_long = q.r_long; p_long = q.p_long; ap_long = q.ap_long; turns = λ a h. no_turn a _ _ q.no_turn }

pub goes_on-requires : goal.goes_on-requires
goes_on-requires c = (c.requires.few, c.loop-before.invariant.most)

pub cgd_turn-t-requires : goal.cgd_turn-t-requires
cgd_turn-t-requires c =
    let n = c.args.system.square.n in
    let i = c.loop-before.invariant in
    let g : c.loop-before.t.k < min (n + 5) c.args.max_iters = ltb-true _ _ (sym c.goes_on.ensures ∙ c.loop-before-test.true) in
    record { few = omega (arith, min-le_left (n + 5) c.args.max_iters, c.requires.few); x_long = i.x_long; r_long = i.r_long; p_long = i.p_long; ap_long = i.ap_long }

pub loop-before-smaller : goal.loop-before-smaller
loop-before-smaller c =
    let g : c.loop-before.t.k < min (c.args.system.square.n + 5) c.args.max_iters = ltb-true _ _ (sym c.goes_on.ensures ∙ c.loop-before-test.true) in
    omega (arith, c.cgd_turn-t.ensures.counted)

pub next_direction-requires : goal.next_direction-requires
next_direction-requires c = c.cgd_turn-t.auto.r ∙ c.loop-before.invariant.r_long ∙ sym c.loop-before.invariant.p_long

pub loop-before-preserved : goal.loop-before-preserved
loop-before-preserved c =
    let n = c.args.system.square.n in
    let g : c.loop-before.t.k < min (n + 5) c.args.max_iters = ltb-true _ _ (sym c.goes_on.ensures ∙ c.loop-before-test.true) in
    let i = c.loop-before.invariant in
    let e = c.cgd_turn-t.ensures in
    let beta = c.cgd_turn-t.result.r_cur /₆₄ c.loop-before.t.r_cur in
    let next_direction = c.next_direction.ensures ∙ ap (λ (m : ℕ). build m (λ i. beta *₆₄ at c.loop-before.p i -₆₄ at c.cgd_turn-t.new.r i)) i.p_long in
    record {
      most = omega (arith, e.counted);
      x_long = c.cgd_turn-t.auto.x ∙ i.x_long;
      r_long = c.cgd_turn-t.auto.r ∙ i.r_long;
      p_long = c.next_direction.auto.p ∙ i.p_long;
      ap_long = c.cgd_turn-t.auto.ap ∙ i.ap_long;
      turns = λ a h. next_turn a _ _ _ _ (i.turns a h) c.cgd_turn-t.result (e.turn a h) c.is_last.ensures e.counted c.if-is_last.false next_direction;
    }

pub returns-after-loop-before : goal.returns-after-loop-before
returns-after-loop-before c =
    let g : min (c.args.system.square.n + 5) c.args.max_iters ≤ c.loop-before.t.k = ltb-false _ _ (sym c.goes_on.ensures ∙ c.loop-before-test.false) in
    λ a h. turns_end a _ _ _ _ (c.loop-before.invariant.turns a h) _ c.loop-before.invariant.most g

pub returns-then-is_last : goal.returns-then-is_last
returns-then-is_last c =
    let g : c.loop-before.t.k < min (c.args.system.square.n + 5) c.args.max_iters = ltb-true _ _ (sym c.goes_on.ensures ∙ c.loop-before-test.true) in
    λ a h. last_turn a _ _ _ _ (c.loop-before.invariant.turns a h) c.cgd_turn-t.result (c.cgd_turn-t.ensures.turn a h) c.is_last.ensures _ g c.if-is_last.true

-- `put_frame` meets its contract, by the invariant in Invariants.antt.
use mathlib.Core.Path.{refl, ap, ◌∙◌}
use Prim.Native.Nat.{ℕ, ◌<◌, ◌≤◌}
use native.Mathlib.Omega.{arith}
use lib.ListN.{length}
use Rattle.loops.proofs.Fill.{fill_none, fill_turn, fill_end, fill_whole}
use Rattle.lists.specs.Draws.{number_of}
use Rattle.lists.proofs.Steps.{draws-none, draws-next}
use Rattle.lists.proofs.try_load.put_frame.Goals as goal

pub loop-x-init : goal.loop-x-init
loop-x-init c = record { state = draws-none _; so_far = fill_none _ _ }

pub loop-x-preserved : goal.loop-x-preserved
loop-x-preserved c =
    let l = c.loop-x in
    let here : l.x-index < length c.args.numbers.now = omega (arith, c.loop-x-test.true, l.auto.numbers) in
    let next = draws-next _ l.x-index l.invariant.state c.draw-t.ensures in
    record { state = next; so_far = fill_turn _ l.x-index c.args.numbers.now here l.invariant.so_far (c.number.ensures ∙ ap number_of next) }

pub returns : goal.returns
returns c =
    let l = c.loop-x in
    let n : ℕ = length c.args.numbers.now in
    let a : l.x-index ≤ n = omega (arith, l.auto.x-index-end, l.auto.numbers) in
    let b : n ≤ l.x-index = omega (arith, c.loop-x-test.false, l.auto.numbers) in
    fill_end _ l.x-index n c.args.numbers.now a b l.invariant.so_far ∙ fill_whole _ n c.args.numbers.now refl

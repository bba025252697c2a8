-- `put_numbers` meets its contract: a push puts its numbers, any other call none.
use mathlib.Core.Path.{◌≡◌, ap, ◌∙◌}
use native.Mathlib.Omega.{arith}
use mathlib.Core.List.{List}
use Prim.Native.Nat.{ℕ, ◌+◌, ◌-◌}
use lib.Ieee.{Float}
use lib.ListN.{length}
use Rattle.loops.specs.Lists.{build}
use Rattle.loops.specs.Ring.{put}
use Rattle.loops.proofs.Fill.{put_back}
use Rattle.lists.specs.Draws.{draws, number_of}
use Rattle.lists.proofs.Steps.{numbers_0, numbers_none, nothing_put, wide-0}
use Rattle.lists.proofs.try_load.put_numbers.Goals as goal

pub overflow_add-at : goal.overflow_add-at
overflow_add-at c = let a = c.args in omega (arith, c.requires, wide-0 a.dim a.kind a.state c.if-kind-eq0.true)

pub slice_bounds-put_frame-end : goal.slice_bounds-put_frame-end
slice_bounds-put_frame-end c = let a = c.args in omega (arith, c.requires, wide-0 a.dim a.kind a.state c.if-kind-eq0.true)

pub returns-then-kind-eq0 : goal.returns-then-kind-eq0
returns-then-kind-eq0 c =
    let a = c.args in
    let long : length c.put_frame.new.numbers ≡ a.at + a.dim - a.at = omega (arith, c.put_frame.auto.numbers, c.requires, wide-0 a.dim a.kind a.state c.if-kind-eq0.true) in
    put_back a.at (a.at + a.dim - a.at) c.put_frame.new.numbers a.frames.now long
    ∙ ap (λ (l : List Float). put a.at l a.frames.now) (c.put_frame.ensures ∙ ap (λ (n : ℕ). build n (λ i. number_of (draws (i + 1) a.state))) (omega (arith, c.put_frame.auto.numbers, long)) ∙ numbers_0 a.dim a.kind a.state c.if-kind-eq0.true)

pub returns-else-kind-eq0 : goal.returns-else-kind-eq0
returns-else-kind-eq0 c = let a = c.args in nothing_put a.at a.frames.now (numbers_none a.dim a.kind a.state c.if-kind-eq0.false)

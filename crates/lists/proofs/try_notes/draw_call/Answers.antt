-- `draw_call` meets its contract: what is coded is the drawn call, kind by kind (Drawn.antt).
use Rattle.std.proofs.Common.{rules}
use mathlib.Core.Path.{◌≡◌, ap}
use Prim.Native.Nat.{ℕ, ◌%◌}
use native.Mathlib.Omega.{arith}
use Rattle.lists.specs.Draws.{drawing}
use Rattle.lists.proofs.Steps.{wide-0}
use Rattle.lists.proofs.Drawn.{coded, push_coded, finish_coded, change_coded, forget_coded, fetch_coded, no_window, at_fetch}
use Rattle.lists.proofs.try_notes.draw_call.Goals as goal

pub put_numbers-requires : goal.put_numbers-requires
put_numbers-requires c = let a = c.args in omega (arith, wide-0 a.dim (c.draw-s.result % 5) c.draw-s.result c.in-Push.ensures, c.requires.1)

pub returns-in-Push : goal.returns-in-Push
returns-in-Push c =
    let a = c.args in
    let zero : c.default.result ≡ coded 0 0 0 0 0 = search rules in
    (rw zero (push_coded a.dim (drawing a.state a.pushes) c.draw-s.result c.draw-s.ensures _ _ c.in-Push.ensures c.put_numbers.ensures), ap (λ (s : ℕ). s % 5) c.draw-s.ensures)

pub returns-in-Finish : goal.returns-in-Finish
returns-in-Finish c =
    let a = c.args in
    let zero : c.default-in-Finish.result ≡ coded 0 0 0 0 0 = search rules in
    (rw zero (finish_coded a.dim (drawing a.state a.pushes) c.draw-s.result c.draw-s.ensures _ _ c.in-Finish.ensures), ap (λ (s : ℕ). s % 5) c.draw-s.ensures)

pub returns-in-Change : goal.returns-in-Change
returns-in-Change c =
    let a = c.args in
    let zero : c.default-in-Change.result ≡ coded 0 0 0 0 0 = search rules in
    (rw zero (change_coded a.dim (drawing a.state a.pushes) c.draw-s.result c.draw-s.ensures a.lists.now a.samples.now c.in-Change.ensures c.requires.2 (omega (arith, c.requires.0, c.requires.1)) c.frame_of-frame.ensures c.weight_of.ensures), ap (λ (s : ℕ). s % 5) c.draw-s.ensures)

pub returns-in-Forget : goal.returns-in-Forget
returns-in-Forget c =
    let a = c.args in
    let zero : c.default-in-Forget.result ≡ coded 0 0 0 0 0 = search rules in
    (rw zero (forget_coded a.dim (drawing a.state a.pushes) c.draw-s.result c.draw-s.ensures _ _ c.in-Forget.ensures c.frame_of-frame.ensures), ap (λ (s : ℕ). s % 5) c.draw-s.ensures)

pub returns-in-Fetch : goal.returns-in-Fetch
returns-in-Fetch c =
    let a = c.args in
    let zero : c.default-in-Fetch.result ≡ coded 0 0 0 0 0 = search rules in
    (rw zero (fetch_coded a.dim (drawing a.state a.pushes) c.draw-s.result c.draw-s.ensures _ _ (at_fetch a.dim (drawing a.state a.pushes) c.draw-s.result c.draw-s.ensures a.lists.now a.samples.now c.in-Fetch.ensures.0) c.frame_of-frame.ensures), ap (λ (s : ℕ). s % 5) c.draw-s.ensures)

pub returns-in-Window : goal.returns-in-Window
returns-in-Window c = let a = c.args in absurd (no_window a.dim (drawing a.state a.pushes) c.draw-s.result c.draw-s.ensures a.lists.now a.samples.now c.in-Window.ensures)

-- Calls that are taken: what a push leaves, and where the mark of a forget stands.
use mathlib.Core.Path.{◌≡◌, refl, sym, ap, ◌∙◌}
use mathlib.Core.Bool.{true}
use mathlib.Core.List.{List, foldl}
use Prim.Native.Nat.{ℕ, ◌+◌, ◌-◌, ◌≤◌, ◌<◌, min, max}
use native.Mathlib.Omega.{arith}
use lib.ListN.{length, get_or, take}
use lib.Ieee.{Float}
use Rattle.loops.specs.Lists.{build}
use Rattle.loops.specs.Ring.{put, place}
use Rattle.floats.specs.Operators.{◌+₆₄◌, at}
use Rattle.definition.specs.declared.IvectorStream.{IvectorStream}
use Rattle.definition.specs.Stream.{rising}
use Rattle.limits.proofs.Ordered.{min-first}
use Rattle.program.specs.Rooms.{Rings, rings_from, ring_at}
use Rattle.program.specs.Calls.{with_accepted, call_of, RingStep, ring_call, done_on, push_frame, pushed_frames, pushed_rows}
use Rattle.stream.proofs.Refusals.{push_taken}
use Rattle.stream.proofs.Stored.{row_of}
use Rattle.stream.proofs.Replies.{done, rings_are}
use Rattle.definition.proofs.Floor.{lowest_under}

-- a call that is taken, by the record and the rings that it leaves
pub taken_is : (s : IvectorStream) (z : Rings) (x : RingStep) {n : ℕ} → n ≡ x.refusal → n ≡ 0 → {t : IvectorStream} {after : Rings} → t ≡ x.stream → after ≡ x.rings
    → ring_call (call_of 0 t 0 0) after ≡ done_on s z x
taken_is s z x e h f g = done s z x e h (ap (λ (t : IvectorStream). call_of 0 t 0 0) f) g

-- a push, by what is stored
module _ (s : IvectorStream) (z : Rings) (x : List Float) {n : ℕ} (e : n ≡ (push_frame s z x).refusal) (h : n ≡ 0) where
  pub push_is : {frames rows : List Float} → frames ≡ put (place (length z.frames) (length x) s.accepted) x z.frames
      → rows ≡ put (place (length z.rows) (length x) (s.accepted + 1)) (row_of z.rows x s.accepted) z.rows
      → ring_call (call_of 0 (with_accepted s (s.accepted + 1)) 0 0) (rings_from frames rows z.waiting_frames z.waiting_weights) ≡ done_on s z (push_frame s z x)
  unfolding push_frame pushed_frames pushed_rows
  push_is f r =
      let wide = (push_taken s z x e h).wide in
      let frames_are = f ∙ ap (λ (k : ℕ). put (place (length z.frames) k s.accepted) x z.frames) wide in
      let rows_are = r ∙ ap (λ (k : ℕ). put (place (length z.rows) k (s.accepted + 1)) (build k (λ d. ring_at k z.rows s.accepted d +₆₄ at x d)) z.rows) wide in
      taken_is s z (push_frame s z x) e h refl (rings_are frames_are rows_are refl refl)

-- the lowest of a number and of frames in order
pub lowest_first : (low : ℕ) (fs : List ℕ) {r : ℕ} → 0 < length fs → rising 0 fs ≡ true → r ≡ min low (get_or fs 0 0) → r ≡ foldl min low fs
lowest_first low fs p o e = e ∙ sym (min-first low 0 fs p o)

-- the new mark, as code comes to it: no later than the statistics
module _ (s : IvectorStream) (fs : List ℕ) (f : ℕ) {reached first kept mark : ℕ} (a : reached ≡ min f s.num_frames_stats) (b : first ≡ foldl min reached (take s.waiting fs))
    (c : kept ≡ first - s.info.opts.left_context) (d : mark ≡ max s.mark kept) where
  pub forget_under : {n : ℕ} → s.mark ≤ n → s.num_frames_stats ≤ n → mark ≤ n
  forget_under h l = omega (arith, lowest_under reached (take s.waiting fs))

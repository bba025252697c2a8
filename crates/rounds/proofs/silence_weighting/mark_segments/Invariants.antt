-- The loop's invariant: after i segments each room is the table's part, frame by frame, marked by the first i.
use mathlib.Core.Path.{◌≡◌}
use Prim.Native.Nat.{ℕ, ◌≤◌}
use lib.ListN.{length}
use mathlib.Core.List.{List}
use lib.Ieee.{Float}
use Rattle.loops.specs.Lists.{build, over}
use Rattle.rounds.specs.Inner.SilenceWeighting.{table_of}
use Rattle.rounds.proofs.Marks.{after}
use Rattle.rounds.proofs.silence_weighting.mark_segments.Given as goal

abbrev pub invariant-loop-i : goal.invariant-loop-i
invariant-loop-i l =
    let p = l.path in
    record {
      known_long : length l.known ≡ length l.initial.known;
      silence_long : length l.is_silence ≡ length l.initial.is_silence;
      marked : (n : ℕ) (ws : List Float) → l.decoded.0 ≤ n → n ≤ length l.initial.known → n ≤ length l.initial.is_silence
          → (l.known ≡ over (build n (λ k. (after l.silence_phones l.decoded.0 p.phones.now p.starts.now p.ends.now (table_of n l.initial.known l.initial.is_silence ws) l.i k).known)) l.initial.known)
          × (l.is_silence ≡ over (build n (λ k. (after l.silence_phones l.decoded.0 p.phones.now p.starts.now p.ends.now (table_of n l.initial.known l.initial.is_silence ws) l.i k).is_silence)) l.initial.is_silence);
    }

-- The loop's invariant: the highest so far, folded over what is left, is the fold over all frames.
use mathlib.Core.Path.{◌≡◌}
use mathlib.Core.List.{foldl}
use Prim.Native.Nat.{◌+◌, max}
use lib.ListN.{drop}
use Rattle.stream.proofs.delta_weights.past_highest_of.Given as goal

abbrev pub invariant-loop-f : goal.invariant-loop-f
invariant-loop-f l = foldl (λ n f. max n (f + 1)) l.past (drop l.f-index l.delta_frames) ≡ foldl (λ n f. max n (f + 1)) l.past_highest l.delta_frames

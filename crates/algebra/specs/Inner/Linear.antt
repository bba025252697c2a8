-- The solver's scalars, and what its inner functions leave.
use Rattle.std.specs.Prelude.{ℕ, ◌+◌, Bool, true, false, List, Float, if◌then◌else◌}
use Rattle.loops.specs.Loop.{Out, on, off}
use Rattle.loops.specs.Lists.{build}
use Rattle.floats.specs.Operators.{◌-₆₄◌, ◌*₆₄◌, ◌/₆₄◌, at}
use Rattle.definition.specs.Solve.{Cgd, residual_far, residual_last, residual_worse}
use Rattle.algebra.specs.declared.linear.CgdState.{CgdState}

-- whether a loop came to its end
abbrev pub is_on : {S : Type 0} → Out S → Bool
is_on (on s) = true
is_on (off s) = false

abbrev pub started : Float → CgdState
started v = record { r_cur = v; r_recompute = v; k = 0 }

abbrev pub stepped : CgdState → Float → CgdState
stepped s v = record { r_cur = v; r_recompute = s.r_recompute; k = s.k + 1 }

abbrev pub recomputed : CgdState → Float → CgdState
recomputed s v = record { r_cur = v; r_recompute = v; k = s.k }

abbrev pub is_far : CgdState → Bool
is_far s = residual_far s.r_cur s.r_recompute

abbrev pub is_last : CgdState → Bool
is_last s = residual_last s.r_cur

abbrev pub is_worse : CgdState → Float → Float → Bool
is_worse s = residual_worse s.r_cur

-- the rooms and the scalars
abbrev pub cgd_of : List Float → List Float → List Float → CgdState → Cgd
cgd_of x r p s = record { x = x; r = r; p = p; r_cur = s.r_cur; r_recompute = s.r_recompute }

-- a turn's end, from what it left of the vector, the residual and the scalars: off where it was the last, else on with the next direction; p and s stood
-- before it
abbrev pub turn_end : ℕ → List Float → CgdState → List Float → List Float → CgdState → Out Cgd
turn_end n p s x r t =
    if is_last t then off (cgd_of x r p t) else on (cgd_of x r (build n (λ i. t.r_cur /₆₄ s.r_cur *₆₄ at p i -₆₄ at r i)) t)

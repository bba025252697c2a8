-- `powers` gives the series of 16 terms, `series 16 1 y`. The loop goes from the last term to the first: with k terms to come, h is
-- `series (16 - k) (k + 1) y` (Series.antt).
use Rattle.std.proofs.Common.{◌≡◌, ◌+◌, ◌-◌}
use Rattle.floats.specs.Exp.{series}
use Rattle.floats.proofs.powers.Given as goal

-- k terms are to come: h is the series from y/(k + 1) on
abbrev pub invariant-loop-k : goal.invariant-loop-k
invariant-loop-k l = l.h ≡ series (16 - l.k) (l.k + 1) l.y

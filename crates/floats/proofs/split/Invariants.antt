-- The loop's invariant of `split`, `Doubling`: the digits of a subnormal are doubled and the exponent falls by one, so that the product stays.
use Rattle.floats.proofs.Splitting.{Doubling}
use Rattle.floats.proofs.split.Given as goal

-- q is doubled and e is one less, so q * 2 ^ e stays
abbrev pub invariant-loop-q : goal.invariant-loop-q
invariant-loop-q l = Doubling l.a l.q l.e

abbrev pub decreases-loop-q : goal.decreases-loop-q
decreases-loop-q l = l.e

-- `basics::ring_place` meets its contract: t rows on by `place-first`, else by the contract of `basics::row_place`.
use native.Mathlib.Nat.{mul-le-mul}
use native.Mathlib.Omega.{arith}
use Rattle.algebra.proofs.Places.{place-first}
use Rattle.algebra.proofs.basics.ring_place.Goals as goal

pub overflow_mul-here : goal.overflow_mul-here
overflow_mul-here c = omega (arith, mul-le-mul c.requires.3 c.requires.1)

pub overflow_add-here : goal.overflow_add-here
overflow_add-here c = omega (arith, mul-le-mul c.requires.3 c.requires.1)

pub returns-then-here-dim : goal.returns-then-here-dim
returns-then-here-dim c = place-first _ _ _ c.requires.0 c.if-here-dim.true

pub row_place-requires : goal.row_place-requires
row_place-requires c = (c.requires.0, c.requires.2)

pub returns : goal.returns
returns c = c.row_place.ensures

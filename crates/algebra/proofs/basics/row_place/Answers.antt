-- `basics::row_place` meets its contract: a row's place lies in the ring, so that the product fits (`place_in` in loops/proofs/Ring.antt).
use mathlib.Core.Path.{refl}
use native.Mathlib.Omega.{arith}
use Rattle.loops.proofs.Ring.{place_in, place_is}
use Rattle.algebra.proofs.basics.row_place.Goals as goal

pub overflow_mul-result : goal.overflow_mul-result
overflow_mul-result c =
    let args = c.args in
    omega (arith, place_in args.numbers args.dim args.t c.requires.1, place_is args.numbers args.dim args.t _ refl)

pub returns : goal.returns
returns c = place_is _ _ _ _ refl

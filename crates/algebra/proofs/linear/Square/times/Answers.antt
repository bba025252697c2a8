-- `Square::times` meets its contract: the sums of rows of a matrix laid out square are its product (`square_product` in Square.antt).
use mathlib.Core.Path.{ap, ◌∙◌}
use Prim.Native.Nat.{ℕ, ◌+◌, ◌*◌}
use lib.ListN.{length}
use Rattle.loops.specs.Lists.{build}
use Rattle.floats.specs.Operators.{◌*₆₄◌, zero₆₄, at, sum₆₄}
use Rattle.algebra.proofs.Square.{square_product}
use Rattle.algebra.proofs.linear.Square.times.Goals as goal

pub returns : goal.returns
returns c =
    let n = c.args.self.n in
    let rows = c.args.self.cells.now in
    let x = c.args.x.now in
    λ a h. square_product n a x h
    (c.weighted_rows.ensures
    ∙ ap (λ (m : ℕ). build m (λ c. sum₆₄ zero₆₄ (length x) (λ a. at rows (a * n + c) *₆₄ at x a))) c.requires.out_long
    ∙ ap (λ (m : ℕ). build n (λ c. sum₆₄ zero₆₄ m (λ a. at rows (a * n + c) *₆₄ at x a))) c.requires.x_long)

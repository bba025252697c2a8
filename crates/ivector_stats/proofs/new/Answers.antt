-- `ivector_stats::new` meets its contract: rooms of zeros become the prior's statistics (`fresh_linear`, `fresh_quadratic` in Fresh.antt).
use Rattle.std.proofs.lemmas.Grind.{common_steps}
use mathlib.Core.Path.{◌≡◌, refl, ◌∙◌}
use native.Mathlib.Omega.{arith}
use lib.ListN.{replicate}
use Rattle.floats.specs.Operators.{zero₆₄}
use Rattle.definition.specs.Kaldi.{triangle}
use Rattle.ivector_stats.proofs.Fresh.{fresh_linear, fresh_quadratic}
use Rattle.ivector_stats.proofs.new.Goals as goal

pub add_diagonal-requires : goal.add_diagonal-requires
add_diagonal-requires c =
    let pre = c.requires in
    (pre.1, c.fill-2.auto.self ∙ pre.3)

pub returns : goal.returns
returns c =
    let args = c.args in
    let pre = c.requires in
    let zeros : c.fill.new.self ≡ replicate args.dim zero₆₄ = grind (arith, common_steps, c.fill.ensures) in
    let more_zeros : c.fill-2.new.self ≡ replicate (triangle args.dim) zero₆₄ = grind (arith, common_steps, c.fill-2.ensures) in
    (fresh_linear args.dim args.prior_offset zeros pre.0 refl, fresh_quadratic args.dim args.prior_offset more_zeros refl c.add_diagonal.ensures)

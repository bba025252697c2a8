-- `fill_lda` meets its contract: the options in range bound the spliced width, and the LDA has a row for each feature.
use Rattle.std.proofs.Common.{ℕ, ◌+◌, ◌*◌, ◌≤◌, ap, ◌∙◌, arith}
use lib.Ieee.{binary32}
use native.Mathlib.Nat.{mul-le-mul}
use Rattle.loops.specs.Lists.{build, over}
use Rattle.definition.specs.Options.{spliced}
use Rattle.definition.specs.Model.{lda_offset_of}
use Rattle.definition.proofs.Ranges.{option_ranges}
use Rattle.kaldi.specs.Inner.KaldiIoGot.{matrix_in}
use Rattle.model.proofs.ivector_info.fill_lda.Goals as goal

pub overflow_add-spliced : goal.overflow_add-spliced
overflow_add-spliced c = omega (arith, (option_ranges c.args.opts c.requires.options_in).left_is)

pub overflow_add-spliced-2 : goal.overflow_add-spliced-2
overflow_add-spliced-2 c =
    let o = option_ranges c.args.opts c.requires.options_in in
    omega (arith, o.left_is, o.right_is)

pub overflow_mul-spliced : goal.overflow_mul-spliced
overflow_mul-spliced c =
    let o = option_ranges c.args.opts c.requires.options_in in
    let wide : c.args.opts.left_context + 1 + c.args.opts.right_context ≤ 17 = omega (arith, o.left_is, o.right_is) in
    let most : c.args.judged.now.dims.base_dim * (c.args.opts.left_context + 1 + c.args.opts.right_context) ≤ 64 * 17 = mul-le-mul c.requires.base_is wide in
    omega arith

pub returns-clause-offset_after : goal.returns-clause-offset_after
returns-clause-offset_after c =
    let j = c.args.judged.now in
    c.fill_offset.ensures ∙ ap (λ (n : ℕ). over (build n (lda_offset_of (spliced c.args.opts j.dims) (matrix_in binary32 j.files.lda))) c.args.lda_offset.now) c.requires.rows_are

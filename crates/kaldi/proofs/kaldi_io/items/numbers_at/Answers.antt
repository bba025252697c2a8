-- `numbers_at` makes a block whose numbers were all kept: each is finite as it is written (`kept_finite` in Values.antt).
use Rattle.std.proofs.Common.{sym, ◌∙◌}
use Rattle.kaldi.specs.Widths.{format_of}
use Rattle.kaldi.proofs.Values.{kept_finite, went_on}
use Rattle.kaldi.proofs.kaldi_io.items.numbers_at.Goals as goal

pub invariant_of-result-clause-finite : goal.invariant_of-result-clause-finite
invariant_of-result-clause-finite g c = kept_finite c.args.positive g.K.Real.format (format_of c.args.width) c.args.n c.in_ok-bytes.bytes.now (sym c.are_kept.ensures ∙ went_on _ c.in_ok-need.ensures)

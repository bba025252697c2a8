-- `all_kept` meets its contract: it leaves its loop at a number that is not to be kept, and behind the loop all are (Values.antt).
use Rattle.std.proofs.Common.{◌∙◌, sym, arith}
use Rattle.kaldi.proofs.Values.{all_kept, one_not_kept, numbers_length}
use Rattle.kaldi.proofs.kaldi_io.blocks.all_kept.Goals as goal

pub returns-then-not-is_kept_at : goal.returns-then-not-is_kept_at
returns-then-not-is_kept_at g c = sym (one_not_kept c.args.positive _ c.loop-i.i (omega (arith, numbers_length)) (sym c.is_kept_at.ensures ∙ c.if-not-is_kept_at.true))

pub returns : goal.returns
returns g c = sym (all_kept c.args.positive _ (λ k h. c.loop-i.invariant k (omega (arith, numbers_length))))

-- `width_at` meets its contract: the tag is the next word, and the width is its (`goes` in Chain.antt).
use Rattle.std.proofs.Common.{sym}
use Rattle.definition.specs.Kaldi.{block_width}
use Rattle.kaldi.proofs.Chain.{goes}
use Rattle.kaldi.proofs.kaldi_io.items.width_at.Goals as goal

pub returns : goal.returns
unfolding block_width
returns c = goes _ _ (sym c.in_ok-tag.ensures) (c.in_ok-width.ensures c.args.src.now c.in_ok-tag.next)

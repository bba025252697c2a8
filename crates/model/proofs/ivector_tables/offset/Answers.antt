-- `offset` meets its contract: with no column behind the spliced ones, its numbers are 0 (`no_offset` in Gmm.antt).
use Rattle.kaldi.specs.Inner.KaldiIoGot.{matrix_in}
use lib.Ieee.{binary32}
use Rattle.model.proofs.Gmm.{no_offset}
use Rattle.model.proofs.ivector_tables.offset.Goals as goal

pub returns-then-block-spliced : goal.returns-then-block-spliced
returns-then-block-spliced c = no_offset c.args.spliced (matrix_in binary32 c.args.block.now) _ _ c.if-block-spliced.true c.requires (c.fill.ensures.after (λ y e. e))

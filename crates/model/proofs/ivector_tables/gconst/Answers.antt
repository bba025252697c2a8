-- `gconst` meets its contract: its loop adds the terms of the definition's constant, `gconst_is` in Gmm.antt.
use Rattle.std.proofs.Common.{refl, ap, ◌∙◌, arith}
use lib.Ieee.{Float}
use Rattle.loops.proofs.Loop.{iter_step, iter_end, iter_none}
use Rattle.floats.specs.Operators.{◌+₆₄◌}
use Rattle.floats.specs.Ln.{ln_of}
use Rattle.kaldi.specs.Parts.{gmm_in}
use Rattle.model.proofs.Gmm.{term_is, gconst_is}
use Rattle.model.proofs.ivector_tables.gconst.Goals as goal

pub loop-k-init : goal.loop-k-init
loop-k-init c = iter_none _ _

pub loop-k-preserved : goal.loop-k-preserved
loop-k-preserved c = iter_step _ _ _ c.loop-k.invariant (ap (λ (x : Float). c.loop-k.gc +₆₄ x) (c.gconst_term-gc.ensures ∙ term_is refl c.get-m.ensures c.get-v.ensures))

pub returns : goal.returns
returns c =
    gconst_is (gmm_in c.args.gmm.now) c.args.g (c.ln.ensures ∙ ap ln_of (c.widen.ensures ∙ c.get-weight.ensures)) c.requires.offset_is
    (iter_end _ _ _ _ (omega arith) c.loop-k-test.false c.loop-k.invariant) c.narrow.ensures

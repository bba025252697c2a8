-- `need_agreeing` meets its contract: the last test is whether the GMM has the extractor's dimension.
use Rattle.std.proofs.Common.{◌≡◌, not, [], ◌∷◌, rules}
use lib.Dec.{eqb}
use Rattle.loops.specs.Refusal.{first_of}
use Rattle.loops.specs.Lists.{all_of}
use Rattle.definition.specs.Number.{refused_by}
use Rattle.model.proofs.ivector_info.need_agreeing.Goals as goal

pub returns : goal.returns
unfolding first_of all_of
returns c =
    let files = c.args.files.now in
    let last : refused_by c.need-3.result ≡ first_of ((not (eqb files.gmm.inv_vars.cols files.extractor.feat_dim), 5) ∷ []) = c.need-3.ensures in
    search rules

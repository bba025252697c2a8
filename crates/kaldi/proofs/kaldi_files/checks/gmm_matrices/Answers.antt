-- `gmm_matrices` meets its contract: item by item (`goes` in Chain.antt of kaldi_io), and then its blocks have to agree.
use Rattle.std.proofs.Common.{rules, ap, sym, ◌∙◌}
use lib.Ieee.{binary32}
use Rattle.kaldi.specs.Widths.{format_of}
use Rattle.kaldi.specs.Inner.KaldiIoGot.{numbers_in, matrix_in}
use Rattle.kaldi.proofs.Values.{numbers_length}
use Rattle.kaldi.proofs.Chain.{goes, stops}
use Rattle.kaldi.specs.Parts.{gmm_agreeing}
use Rattle.kaldi.proofs.kaldi_files.checks.gmm_matrices.Goals as goal

pub returns-in_err-token-2-clause-value : goal.returns-in_err-token-2-clause-value
returns-in_err-token-2-clause-value c =
    let first = ap (λ b. b.now) c.token.ensures.same_source in
    let second = ap (λ b. b.now) c.matrix.ensures.same_source ∙ first in
    let means = rw first at c.in_ok-means_invvars.ensures.value in
    let token = rw second at c.in_err-token-2.ensures.value in
    goes _ _ (sym c.in_ok-token.ensures.value) (goes _ _ (sym means) (stops _ _ (sym token) (search rules)))

pub returns-in_err-inv_vars-clause-value : goal.returns-in_err-inv_vars-clause-value
returns-in_err-inv_vars-clause-value c =
    let first = ap (λ b. b.now) c.token.ensures.same_source in
    let second = ap (λ b. b.now) c.matrix.ensures.same_source ∙ first in
    let third = ap (λ b. b.now) c.token-2.ensures.same_source ∙ second in
    let means = rw first at c.in_ok-means_invvars.ensures.value in
    let token = rw second at c.in_ok-token-2.ensures.value in
    let vars = rw third at c.in_err-inv_vars.ensures.value in
    goes _ _ (sym c.in_ok-token.ensures.value) (goes _ _ (sym means) (goes _ _ (sym token) (stops _ _ (sym vars) (search rules))))

pub returns-clause-value : goal.returns-clause-value
returns-clause-value c =
    let first = ap (λ b. b.now) c.token.ensures.same_source in
    let second = ap (λ b. b.now) c.matrix.ensures.same_source ∙ first in
    let third = ap (λ b. b.now) c.token-2.ensures.same_source ∙ second in
    let means = rw first at c.in_ok-means_invvars.ensures.value in
    let token = rw second at c.in_ok-token-2.ensures.value in
    let vars = rw third at c.in_ok-inv_vars.ensures.value in
    let weights = c.args.weights in
    let count = numbers_length binary32 (format_of weights.width) weights.count weights.bytes.now in
    let long = ap (λ n. gmm_agreeing (numbers_in binary32 weights) n (matrix_in binary32 c.in_ok-means_invvars.means_invvars) (matrix_in binary32 c.in_ok-inv_vars.inv_vars) c.args.r.now.src.now c.matrix-2.new.self.at) (sym count) in
    goes _ _ (sym c.in_ok-token.ensures.value) (goes _ _ (sym means) (goes _ _ (sym token) (goes _ _ (sym vars) (c.agreeing.ensures _ _ ∙ long))))

-- `float_at` meets its contract: the size byte says the width, so many bytes are read, and their number has to be finite (`goes` and `met` in Chain.antt).
use Rattle.std.proofs.Common.{◌≡◌, true, sym, ap, ◌∙◌, arith}
use lib.Ieee.Scale.{finite}
use Rattle.definition.specs.Reader.{kept, read}
use Rattle.definition.specs.Kaldi.{single, width_by}
use Rattle.kaldi.proofs.Chain.{goes, met}
use Rattle.kaldi.proofs.TextRuns.{passed}
use Rattle.kaldi.proofs.kaldi_io.items.float_at.Goals as goal

pub returns : goal.returns
unfolding single width_by kept
returns c =
    let whole : finite c.f64_of-x.result ≡ true = sym c.is_kept.ensures ∙ passed _ 6 (omega arith) c.in_ok-need.ensures in
    goes _ _ (sym c.in_ok-size.ensures.value)
    (goes _ _ (sym (c.in_ok-width.ensures c.args.src.now c.in_ok-size.next))
    (goes _ _ (sym (rw c.bytes.ensures.value at c.in_ok-bytes.ensures.value))
    (goes _ _ (sym (met 6 c.args.src.now c.in_ok-bytes.next (ap finite (sym c.f64_of-x.ensures) ∙ whole))) (ap (λ x. read x c.in_ok-bytes.next) c.f64_of-x.ensures))))

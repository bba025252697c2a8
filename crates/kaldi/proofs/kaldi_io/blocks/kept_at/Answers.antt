-- `kept_at` meets its contract: the number of bytes says which format it is, and a number of a block is finite (Values.antt).
use Rattle.std.proofs.Common.{◌≡◌, sym, ap, ◌∙◌, arith, from_bits}
use lib.Ieee.{binary32, binary64}
use lib.Ieee.Scale.{finite}
use Rattle.floats.specs.Real.{kept_as}
use Rattle.definition.specs.Reader.{little_endian}
use Rattle.kaldi.proofs.Values.{numbers_at, finite_at, of_four, of_eight}
use Rattle.kaldi.proofs.kaldi_io.blocks.kept_at.Goals as goal

pub single-requires-clause-good : goal.single-requires-clause-good
single-requires-clause-good g c =
    let f = g.W.Real.format in
    let e : f ≡ binary32 = of_four f (omega (arith, c.if-BYTES-eq4.true, c.BYTES.ensures, g.met.W.Real.bytes)) in
    ap (λ f. finite (from_bits f (little_endian c.part-bytes.result.now))) (sym e) ∙ ap (λ l. finite (from_bits f (little_endian l))) c.part-bytes.ensures.value
    ∙ finite_at f c.args.n c.args.bytes.now c.args.i c.requires.inside c.requires.finite

pub double-requires-clause-good : goal.double-requires-clause-good
double-requires-clause-good g c =
    let f = g.W.Real.format in
    let e : f ≡ binary64 = of_eight f (λ h. omega (arith, h, c.if-BYTES-eq4.false, c.BYTES.ensures, g.met.W.Real.bytes)) in
    ap (λ f. finite (from_bits f (little_endian c.part-bytes.result.now))) (sym e) ∙ ap (λ l. finite (from_bits f (little_endian l))) c.part-bytes.ensures.value
    ∙ finite_at f c.args.n c.args.bytes.now c.args.i c.requires.inside c.requires.finite

pub returns-then-BYTES-eq4 : goal.returns-then-BYTES-eq4
returns-then-BYTES-eq4 g c =
    let f = g.W.Real.format in
    let k = g.K.Real.format in
    let e : f ≡ binary32 = of_four f (omega (arith, c.if-BYTES-eq4.true, c.BYTES.ensures, g.met.W.Real.bytes)) in
    c.keep.ensures ∙ ap (kept_as k binary32) c.single.ensures ∙ ap (λ f. kept_as k f (from_bits f (little_endian c.part-bytes.result.now))) (sym e)
    ∙ ap (λ l. kept_as k f (from_bits f (little_endian l))) c.part-bytes.ensures.value ∙ sym (numbers_at k f c.args.n c.args.bytes.now c.args.i c.requires.inside)

pub returns-else-BYTES-eq4 : goal.returns-else-BYTES-eq4
returns-else-BYTES-eq4 g c =
    let f = g.W.Real.format in
    let k = g.K.Real.format in
    let e : f ≡ binary64 = of_eight f (λ h. omega (arith, h, c.if-BYTES-eq4.false, c.BYTES.ensures, g.met.W.Real.bytes)) in
    c.keep-else-BYTES-eq4.ensures ∙ ap (kept_as k binary64) c.double.ensures ∙ ap (λ f. kept_as k f (from_bits f (little_endian c.part-bytes.result.now))) (sym e)
    ∙ ap (λ l. kept_as k f (from_bits f (little_endian l))) c.part-bytes.ensures.value ∙ sym (numbers_at k f c.args.n c.args.bytes.now c.args.i c.requires.inside)

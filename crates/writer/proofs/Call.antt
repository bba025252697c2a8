-- The whole call: what it answers and leaves, where it is refused and where the three files are written.
use mathlib.Core.Path.{◌≡◌, sym, ap, ◌∙◌}
use mathlib.Core.Bool.{Bool, true}
use mathlib.Core.List.{List, [], ◌∷◌}
use Prim.Native.Nat.{ℕ, ◌-◌}
use native.Mathlib.Omega.{arith}
use lib.ListN.{length}
use lib.Ieee.{Float, nan, Format}
use lib.Ieee.Scale.{finite}
use Rattle.loops.specs.Lists.{all_of, over}
use Rattle.loops.proofs.Refusal.{taken_new, taken_old}
use Rattle.loops.proofs.Tests.{each_at, at_each}
use Rattle.definition.specs.declared.IvectorOptions.{IvectorOptions}
use Rattle.definition.specs.declared.refusal.Refusal.{Refusal}
use Rattle.definition.specs.Number.{number_of}
use Rattle.floats.specs.Real.{kept_as}
use Rattle.definition.specs.Reader.{kept}
use Rattle.kaldi.proofs.Values.{kept_one}
use Rattle.writer.specs.declared.byte_writer.Writer.{Writer}
use Rattle.writer.specs.Wrote.{HasRoom, Wrote}
use Rattle.writer.proofs.Chain.{together, whole}
use Rattle.writer.specs.Written as W
use Rattle.writer.specs.Written.{Params, gmm_bytes, extractor_bytes, lda_bytes, model_bytes, write_refusal, written, written_out}
use Rattle.writer.proofs.Sound.{Listed, Sound, sound}
use Rattle.writer.proofs.Order.{not_zero}

-- numbers that a table keeps are finite
pub listed_finite : {f t : Format} {positive : Bool} {n : ℕ} {xs : List Float} → Listed f t positive n xs → all_of finite xs ≡ true
listed_finite {f} {t} {positive} {xs = xs} h = at_each finite nan xs (λ k l. kept_one positive t f _ (each_at (λ x. kept positive (kept_as t f x)) nan xs k h.good l))

module _ (f : Format) (o : IvectorOptions) (t : List ℕ) (p : Params) (out : List ℕ) where
  pub refused_is : (e : Refusal) → number_of e ≡ write_refusal f o t p (length out) → W.Refused (number_of e) ≡ written f o t p (length out)
  unfolding written
  refused_is e h = ap W.Refused h ∙ sym (taken_old _ _ _ (λ k. not_zero e (h ∙ k)))

  pub untouched : (e : Refusal) → number_of e ≡ write_refusal f o t p (length out) → out ≡ written_out f o t p out
  unfolding written_out
  untouched e h = sym (taken_old _ _ _ (λ k. not_zero e (h ∙ k)))

  module _ (ok : 0 ≡ write_refusal f o t p (length out)) where
    pub fine : Sound f o t p (length out)
    fine = sound f o t p (length out) (sym ok)

    pub offset_finite : finite p.prior_offset ≡ true
    offset_finite = each_at finite nan (p.prior_offset ∷ []) 0 (listed_finite fine.offset) (omega arith)

    -- a writer at the front of the output has room for all three
    pub room : {u : Writer} → u.at ≡ 0 → length u.out.now ≡ length out → HasRoom (model_bytes f p) u
    room z l = record { fits = omega (arith, z, l, fine.fits_in) }

    module _ {u v w x : Writer} (z : u.at ≡ 0) (a : Wrote (gmm_bytes f p) u v) (b : Wrote (extractor_bytes f p) v w) (c : Wrote (lda_bytes f p) w x) where
      pub files_are : W.Files v.at (w.at - v.at) (x.at - w.at) ≡ written f o t p (length out)
      unfolding written
      files_are =
          let ga : v.at ≡ length (gmm_bytes f p) = omega (arith, z, a.next_is) in
          let xb : w.at - v.at ≡ length (extractor_bytes f p) = omega (arith, b.next_is) in
          let lc : x.at - w.at ≡ length (lda_bytes f p) = omega (arith, c.next_is) in
          ap (λ (n : ℕ). W.Files n (w.at - v.at) (x.at - w.at)) ga ∙ ap (λ (n : ℕ). W.Files (length (gmm_bytes f p)) n (x.at - w.at)) xb
          ∙ ap (λ (n : ℕ). W.Files (length (gmm_bytes f p)) (length (extractor_bytes f p)) n) lc ∙ sym (taken_new _ _ _ (sym ok))

      pub out_is : u.out.now ≡ out → x.out.now ≡ written_out f o t p out
      unfolding written_out
      out_is e = (whole z (together a (together b c))).1 ∙ ap (over (model_bytes f p)) e ∙ sym (taken_new _ _ _ (sym ok))

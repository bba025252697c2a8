-- `loads`: what was written loads as the model of the parameters. The files are cut out of the output by the answered lengths, and then it is a load of the files
-- that the parameters would be (`load_is`), of which no test but that of the rooms is left.
use Rattle.std.specs.Prelude.{if◌then◌else◌}
use mathlib.Core.Path.{◌≡◌, refl, sym, ap, ◌∙◌}
use mathlib.Core.Bool.{Bool, true, false, not}
use mathlib.Core.List.{List, [], ◌∷◌, ◌++◌, append_assoc}
use Prim.Native.Nat.{ℕ, ◌+◌}
use lib.ListN.{length, take, drop}
use lib.Seq.{take_at, drop_at, drop-drop}
use Rattle.loops.specs.Lists.{over}
use Rattle.loops.specs.Refusal.{first_of, taken}
use Rattle.loops.proofs.Refusal.{taken_new}
use Rattle.definition.specs.Reader.{read, refused}
use Rattle.definition.specs.Model.{Files, Model, model_of, load}
use Rattle.definition.specs.Text.{cmvn}
use Rattle.writer.specs.Written as W
use Rattle.writer.specs.Written.{Params, gmm_bytes, extractor_bytes, lda_bytes, model_bytes, write_refusal, written, written_out}
use Rattle.writer.specs.Theorems.{files_in, files_of, row_of, contents_of, enough, Loads}
use Rattle.writer.proofs.Fitting.{Fitting, fitting}
use Rattle.writer.proofs.Refuses.{load_is, only_rooms, none_of_load, accepted_taken}

-- ---- the files, cut out of the output

module _ (G X L rest : List ℕ) where
  abbrev all : List ℕ
  all = (G ++ (X ++ L)) ++ rest

  past_gmm : drop (length G) all ≡ X ++ (L ++ rest)
  past_gmm = ap (drop (length G)) (append_assoc G (X ++ L) rest) ∙ drop_at G ((X ++ L) ++ rest) (length G) refl ∙ append_assoc X L rest

  cut_gmm : take (length G) all ≡ G
  cut_gmm = ap (take (length G)) (append_assoc G (X ++ L) rest) ∙ take_at G ((X ++ L) ++ rest) (length G) refl

  cut_extractor : take (length X) (drop (length G) all) ≡ X
  cut_extractor = ap (take (length X)) past_gmm ∙ take_at X (L ++ rest) (length X) refl

  cut_lda : take (length L) (drop (length G + length X) all) ≡ L
  cut_lda = ap (take (length L)) (sym (drop-drop (length X) (length G) all) ∙ ap (drop (length X)) past_gmm ∙ drop_at X (L ++ rest) (length X) refl) ∙ take_at L rest (length L) refl

  files_are : (t : List ℕ) → files_in (W.Files (length G) (length X) (length L)) all t ≡ record { gmm = G; extractor = X; lda = L; cmvn = t }
  files_are t = rw (cut_gmm, cut_extractor, cut_lda)

-- where no other test holds
by_room : (b : Bool) (M : Model) (r : ℕ) → r ≡ first_of ((not b, 8) ∷ []) → taken r (read M 0) (refused r) ≡ (if b then read M 0 else refused 8)
unfolding first_of
by_room true M r e = ap (λ (r : ℕ). taken r (read M 0) (refused r)) e
by_room false M r e = ap (λ (r : ℕ). taken r (read M 0) (refused r)) e

pub loads : Loads
unfolding written written_out over
loads f o t p out acc h z n =
    let none : write_refusal f o t p (length out) ≡ 0 = accepted_taken f o t p acc (length out) h in
    let a : Fitting f p = fitting f p acc.shaped in
    let cut : files_in (written f o t p (length out)) (written_out f o t p out) t ≡ files_of f p t =
    ap (λ w. files_in w (written_out f o t p out) t) (taken_new _ _ _ none)
    ∙ ap (λ (l : List ℕ). files_in (W.Files (length (gmm_bytes f p)) (length (extractor_bytes f p)) (length (lda_bytes f p))) l t) (taken_new _ _ _ none)
    ∙ files_are (gmm_bytes f p) (extractor_bytes f p) (lda_bytes f p) (drop (length (model_bytes f p)) out) t in
    ap (λ (F : Files). load o F z n) cut ∙ load_is f o t p a z n
    ∙ by_room (enough f o t p z n) (model_of o (contents_of f p (row_of (cmvn t 0))) z) _ (only_rooms f o t p a z n (none_of_load f o t p a acc.tables acc.scratch acc.loaded))

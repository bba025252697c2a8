-- The order of the refusals: a list's tests while its numbers are gone through; a file's tests after those before it.
use mathlib.Core.Path.{◌≡◌, refl, sym, ap, ◌∙◌}
use mathlib.Core.Bool.{Bool, true, false, not}
use mathlib.Core.List.{List, [], ◌∷◌, ◌++◌, map}
use Prim.Native.Nat.{ℕ, zero, suc, ◌+◌, ◌≤◌, ◌<◌}
use native.Mathlib.Omega.{arith}
use borrow.Author.Tests.{eq-eqb, eqb-true, not-false, leb-true, leb-false, le-leb, le-ltb, lt-ltb}
use lib.Dec.{eqb, leb, ltb}
use lib.ListN.{length, get_or, drop}
use lib.Ieee.{Float, nan, Format, binary64}
use lib.Ieee.Scale.{finite}
use Rattle.loops.specs.Lists.{all_of}
use Rattle.loops.specs.Refusal.{first_of}
use Rattle.std.specs.Prelude.{Ok, Err}
use Rattle.loops.proofs.Choose.{by-test, and_both, and_holds}
use Rattle.loops.proofs.Tests.{at_fail, all_turn, all_end, of_each}
use Rattle.loops.proofs.Refusal.{Numbered, first_is, first-none, none_first, first_already, first_then}
use Rattle.definition.specs.declared.refusal.Refusal.{Refusal}
use Rattle.definition.specs.declared.refusal.Refusal.TheVariants as R
use Rattle.definition.specs.Number.{number_of}
use Rattle.definition.specs.declared.IvectorOptions.{IvectorOptions}
use Rattle.definition.specs.Options.{within, options_in_range, dims_in_range, dims_agree}
use Rattle.floats.specs.Real.{byte_width, kept_as}
use Rattle.definition.specs.Reader.{Got, refused, read, kept}
use Rattle.definition.specs.Text.{cmvn}
use Rattle.writer.specs.declared.model_bytes.ModelSizes.{ModelSizes}
use Rattle.writer.specs.Inner.ModelChecks.{BaseOf, InRange, gmm_tests, extractor_tests, lda_tests, total_length}
use Rattle.writer.proofs.Lengths.{total_is}
use Rattle.writer.specs.Written.{Params, list_tests, text_tests, dims_with, model_bytes, write_refusal}

-- ---- what a `need` says

-- no refusal has the number 0
pub not_zero : (e : Refusal) → number_of e ≡ 0 → ⊥
not_zero R.OptionRange h = absurd (omega arith)
not_zero R.CutShort h = absurd (omega arith)
not_zero R.BadMark h = absurd (omega arith)
not_zero R.DimensionRange h = absurd (omega arith)
not_zero R.Disagree h = absurd (omega arith)
not_zero R.BadNumber h = absurd (omega arith)
not_zero R.CmvnForm h = absurd (omega arith)
not_zero R.ShortRoom h = absurd (omega arith)
not_zero R.SilenceSettings h = absurd (omega arith)
not_zero R.ForeignRecord h = absurd (omega arith)
not_zero R.FrameLength h = absurd (omega arith)
not_zero R.FrameNumber h = absurd (omega arith)
not_zero R.LastFrame h = absurd (omega arith)
not_zero R.FramesFull h = absurd (omega arith)
not_zero R.RowsFull h = absurd (omega arith)
not_zero R.ChangeList h = absurd (omega arith)
not_zero R.ChangeNumber h = absurd (omega arith)
not_zero R.FrameGone h = absurd (omega arith)
not_zero R.WaitingFull h = absurd (omega arith)
not_zero R.OutputLength h = absurd (omega arith)
not_zero R.NotReady h = absurd (omega arith)
not_zero R.AboveHighest h = absurd (omega arith)
not_zero R.DecoderFrames h = absurd (omega arith)
not_zero R.SilenceLists h = absurd (omega arith)
not_zero R.SettingsText h = absurd (omega arith)
not_zero R.ShortOutput h = absurd (omega arith)
not_zero R.VoiceCount h = absurd (omega arith)
not_zero R.VectorLength h = absurd (omega arith)
not_zero R.VectorNumber h = absurd (omega arith)
not_zero R.Forgotten h = absurd (omega arith)
not_zero R.WindowRange h = absurd (omega arith)
not_zero R.OldWindow h = absurd (omega arith)
not_zero R.TrySizes h = absurd (omega arith)
not_zero R.ListTooShort h = absurd (omega arith)

-- the test that a `need` was refused by, its number, and a test that it was not refused by
pub failed : (e : Refusal) (b : Bool) (n : ℕ) → number_of e ≡ first_of ((not b, n) ∷ []) → b ≡ false
unfolding first_of
failed e true n h = absurd (not_zero e h)
failed e false n h = refl

pub number_is : (e : Refusal) (b : Bool) (n : ℕ) → number_of e ≡ first_of ((not b, n) ∷ []) → number_of e ≡ n
unfolding first_of
number_is e true n h = absurd (not_zero e h)
number_is e false n h = h

pub passed : (b : Bool) (n : ℕ) → Numbered ((not b, n) ∷ []) → 0 ≡ first_of ((not b, n) ∷ []) → b ≡ true
passed b n p h = not-false _ (none_first _ p (sym h)).0

-- the same of a list's length
pub as_long : (k n : ℕ) → 0 ≡ first_of ((not (eqb k n), 5) ∷ []) → k ≡ n
as_long k n h = eqb-true _ _ (passed _ 5 tt h)

-- ---- tests after tests

-- the one that holds is among the first, or comes after them
pub here : (e : Refusal) (ts us : List (Bool × ℕ)) → number_of e ≡ first_of ts → number_of e ≡ first_of (ts ++ us)
here e ts us h = h ∙ sym (first_already ts us (λ k. not_zero e (h ∙ k)))

pub after : (ts us : List (Bool × ℕ)) → Numbered ts → 0 ≡ first_of ts → {x : ℕ} → x ≡ first_of us → x ≡ first_of (ts ++ us)
after ts us p h e = e ∙ sym (first_then ts us p (sym h))

-- ---- one list, of numbers of type A that stand for floats

-- item i of the floats
pub at_map : {A : Type 0} (h : A → Float) (xs : List A) (i : ℕ) (x : A) → i < length xs → x ≡ get_or xs i x → get_or (map h xs) i nan ≡ h x
at_map h [] i x l e = absurd (omega arith)
at_map h (y ∷ ys) zero x l e = ap h (sym e)
at_map h (y ∷ ys) (suc i) x l e = at_map h ys i x (omega arith) e

pub length_map : {A B : Type 0} (h : A → B) (xs : List A) → length (map h xs) ≡ length xs
length_map h [] = refl
length_map h (x ∷ xs) = ap suc (length_map h xs)

-- a number that a table of f64 keeps
pub kept_wide : (f : Format) (x : Float) → kept false (kept_as binary64 f x) ≡ finite x
unfolding kept
kept_wide f x = refl

module _ {A : Type 0} (h : A → Float) (f t : Format) (positive : Bool) (xs : List A) where
  abbrev good : Float → Bool
  good x = kept positive (kept_as t f x)

  abbrev nums : List Float
  nums = map h xs

  -- what a loop over the list keeps: those from item i on are good where all are
  abbrev pub SoFar : ℕ → Type 0
  SoFar i = all_of good (drop i nums) ≡ all_of good nums

  module _ (n : ℕ) (l : length xs ≡ n) where
    few : length nums ≡ n
    few = length_map h xs ∙ l

    pub list_bad : (i : ℕ) (x : A) → i < length xs → x ≡ get_or xs i x → good (h x) ≡ false → 6 ≡ first_of (list_tests f t positive n nums)
    list_bad i x k e u = first_is 1 _ (ap not (eq-eqb (length nums) n few), ap not (at_fail good nan nums i (omega (arith, few)) (ap good (at_map h xs i x k e) ∙ u)))

    pub list_end : (i : ℕ) → length xs ≤ i → SoFar i → 0 ≡ first_of (list_tests f t positive n nums)
    list_end i k so = first-none _ (ap not (eq-eqb (length nums) n few), (ap not (sym (all_end good nums i (omega (arith, few)) so)), tt))

  pub list_turn : (i : ℕ) (x : A) → i < length xs → x ≡ get_or xs i x → good (h x) ≡ true → SoFar i → SoFar (i + 1)
  list_turn i x k e u so = all_turn good nan nums i (omega (arith, length_map h xs)) (ap good (at_map h xs i x k e) ∙ u) so

-- the offset, as a list of one number
pub offset_is : (f : Format) (x : Float) → first_of ((not (finite x), 6) ∷ []) ≡ first_of (list_tests f binary64 false 1 (x ∷ []))
unfolding first_of all_of kept
offset_is f x = by-test (finite x) (λ e. rw e refl) (λ e. rw e refl)

-- ---- the text

module _ (o : IvectorOptions) (z : ModelSizes) where
  pub text_numbered : (c : Got (List Float)) → Numbered (text_tests o z c)
  text_numbered (refused n) = tt
  text_numbered (read row next) = tt

  pub text_refused : (c : Got (List Float)) (e : Refusal) → BaseOf c (Err e) → number_of e ≡ first_of (text_tests o z c)
  unfolding first_of
  text_refused (refused n) e h = h
  text_refused (read row next) e h = absurd h

  pub text_agrees : (c : Got (List Float)) (base : ℕ) → BaseOf c (Ok base) → {x : ℕ} → x ≡ first_of ((not (dims_agree o (dims_with z base)), 5) ∷ [])
      → x ≡ first_of (text_tests o z c)
  text_agrees (refused n) base h e = absurd h
  text_agrees (read row next) base h e = e ∙ ap (λ (k : ℕ). first_of ((not (dims_agree o (dims_with z k)), 5) ∷ [])) h.0

  -- what the test of the files against each other asks
  pub dims_in : (c : Got (List Float)) (base : ℕ) → BaseOf c (Ok base) → InRange z → dims_in_range (dims_with z base) ≡ true
  unfolding dims_in_range
  dims_in (refused n) base b h = absurd b
  dims_in (read row next) base b h =
      of_each (λ (b : Bool). b) _ (size h.gauss_low h.gauss, (size h.ext_low h.ext, (size h.feat_low h.feat, (size h.ivector_low h.ivector, (size b.1 b.2, (size h.columns_low h.columns, tt))))))
    where
      size : {n most : ℕ} → 1 ≤ n → n ≤ most → within 1 most n ≡ true
      size {n} {most} a b = and_both (leb 1 n) (leb n most) (le-leb 1 n a) (le-leb n most b)

-- ---- where the files' tests have been passed

high_of : (most n : ℕ) → not (within 1 most n) ≡ false → n ≤ most
high_of most n e = leb-true n most (and_holds (leb 1 n) (leb n most) (not-false _ e)).1

low_of : (most n : ℕ) → not (within 1 most n) ≡ false → 1 ≤ n
low_of most n e = leb-true 1 n (and_holds (leb 1 n) (leb n most) (not-false _ e)).0

long_of : {k n : ℕ} → not (eqb k n) ≡ false → k ≡ n
long_of e = eqb-true _ _ (not-false _ e)

module _ (f : Format) (p : Params) where
  pub feat_high : 0 ≡ first_of (gmm_tests f p) → p.sizes.feat_dim ≤ 64
  feat_high g = high_of _ _ (none_first (gmm_tests f p) tt (sym g)).1.1.1.0

  module _ (g : 0 ≡ first_of (gmm_tests f p)) (x : 0 ≡ first_of (extractor_tests f p)) (l : 0 ≡ first_of (lda_tests f p)) where
    pub in_range : InRange p.sizes
    in_range =
        let a = none_first (gmm_tests f p) tt (sym g) in
        let b = none_first (extractor_tests f p) tt (sym x) in
        let c = none_first (lda_tests f p) tt (sym l) in
        record {
          gauss_low = low_of _ _ a.0;
          gauss = high_of _ _ a.0;
          ext_low = low_of _ _ b.0;
          ext = high_of _ _ b.0;
          feat_low = low_of _ _ a.1.1.1.0;
          feat = high_of _ _ a.1.1.1.0;
          ivector_low = low_of _ _ b.1.0;
          ivector = high_of _ _ b.1.0;
          columns_low = low_of _ _ c.0;
          columns = high_of _ _ c.0;
        }

    pub total : total_length (byte_width f) p.sizes ≡ length (model_bytes f p)
    total =
        let a = none_first (gmm_tests f p) tt (sym g) in
        let b = none_first (extractor_tests f p) tt (sym x) in
        let c = none_first (lda_tests f p) tt (sym l) in
        total_is f p (long_of a.1.0) (long_of a.1.1.1.1.0) (long_of a.1.1.1.1.1.1.0) (long_of b.1.1.0) (long_of b.1.1.1.1.0) (long_of c.1.0)

    -- all of them, the text's, and the room's
    pub all_tests : (o : IvectorOptions) (t : List ℕ) (room : ℕ) {x : ℕ} → 0 ≡ first_of ((not (options_in_range o), 1) ∷ []) → 0 ≡ first_of (text_tests o p.sizes (cmvn t 0))
        → x ≡ first_of ((not (leb (total_length (byte_width f) p.sizes) room), 26) ∷ []) → x ≡ write_refusal f o t p room
    unfolding write_refusal
    all_tests o t room op tx e =
        after ((not (options_in_range o), 1) ∷ []) _ tt op (after (gmm_tests f p) _ tt g (after (extractor_tests f p) _ tt x (after (lda_tests f p) _ tt l (after (text_tests o p.sizes (cmvn t 0)) _ (text_numbered o p.sizes (cmvn t 0)) tx
        (e ∙ ap (λ (b : Bool). first_of ((b, 26) ∷ [])) (not_leb _ room ∙ ap (ltb room) total))))))
      where
        not_leb : (a b : ℕ) → not (leb a b) ≡ ltb b a
        not_leb a b = by-test (leb a b) (λ h. ap not h ∙ sym (le-ltb b a (leb-true a b h))) (λ h. ap not h ∙ sym (lt-ltb b a (leb-false a b h)))

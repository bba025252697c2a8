-- `refuses`: a load of the files that parameters would be is refused by the number that the call answers. The load's tests are those of its files (Judged.antt), the
-- text's and the files' together; the call's are the same with the lists' lengths between them, which are right (`same_tests`).
use Rattle.std.specs.Prelude.{if◌then◌else◌}
use mathlib.Core.Path.{◌≡◌, refl, sym, ap, ◌∙◌, subst}
use mathlib.Core.Bool.{Bool, true, false, not, ◌&&◌, true≢false}
use mathlib.Core.List.{List, [], ◌∷◌, ◌++◌, append-nil}
use Prim.Native.Nat.{ℕ, zero, suc, ◌+◌, ◌-◌, ◌≤◌, ◌<◌, ◌^◌}
use native.Mathlib.Nat.{add-zero}
use native.Mathlib.Omega.{arith}
use borrow.Author.Tests.{le-leb, eq-eqb, lt-ltb, le-ltb}
use lib.Dec.{leb, eqb, ltb}
use lib.ListN.{length}
use lib.Ieee.{Float, Format}
use Rattle.loops.specs.Lists.{all_of, all_true, pairwise}
use Rattle.loops.specs.Refusal.{first_of, taken}
use Rattle.loops.proofs.Choose.{and_both}
use Rattle.loops.proofs.Refusal.{Numbered, first-here, first_then, first_already, taken_new, taken_old}
use Rattle.definition.specs.declared.IvectorOptions.{IvectorOptions}
use Rattle.definition.specs.declared.TableLengths.{TableLengths}
use Rattle.loops.proofs.Tests.{of_each}
use Rattle.definition.specs.Options.{max_gauss, max_feat, max_ivector, max_columns, options_in_range, dims_agree}
use Rattle.definition.specs.Reader.{Got, read, refused, Parser, after, ◌>>=◌, ◌>>◌, give, need}
use Rattle.definition.specs.Kaldi.{Matrix, Gmm, gmm, Extractor, extractor, lda}
use Rattle.definition.specs.Model.{Contents, Files, Model, dims_of, contents_agree, model_of, table_sizes, table_lengths, tables_fit, load_scratch, file, reading, judged, loading, load}
use Rattle.definition.specs.Text.{cmvn}
use Rattle.writer.specs.Written.{token_bytes, Params, model_bytes, dims_with, text_tests, write_refusal}
use Rattle.writer.specs.Theorems.{row_of, contents_of, files_of, enough, number_in, Shaped, Refuses, Accepted, Takes, of_width, of_sizes, in_four_bytes}
use Rattle.writer.proofs.Fitting.{Fitting, fitting}
use Rattle.writer.proofs.Judged.{gmm_bytes_is, gmm_front, judges_front, judges_extractor, judges_lda, gmm_tests, extractor_tests, lda_tests}
use Rattle.writer.proofs.Reading.{Judges, reads_give, judges_then, judges_as, judges_none, judges_need}
use Rattle.writer.proofs.Seven.{Seven, cmvn_seven}
use Rattle.writer.proofs.Sound.{Sized, Sound, sound}

-- ---- laws

first_append : (ts us : List (Bool × ℕ)) → Numbered ts → first_of (ts ++ us) ≡ taken (first_of ts) (first_of us) (first_of ts)
first_append ts us n = go (first_of ts) refl
  where
    go : (r : ℕ) → first_of ts ≡ r → first_of (ts ++ us) ≡ taken (first_of ts) (first_of us) (first_of ts)
    go zero e = first_then ts us n e ∙ sym (taken_new (first_of ts) (first_of us) (first_of ts) e)
    go (suc r) e = let some : first_of ts ≡ 0 → ⊥ = λ z. omega arith in first_already ts us some ∙ sym (taken_old (first_of ts) (first_of us) (first_of ts) some)

number_of_taken : {A : Type 0} (r : ℕ) (a : A) (i : ℕ) → number_in (taken r (read a i) (refused r)) ≡ r
number_of_taken zero a i = refl
number_of_taken (suc r) a i = refl

-- a file of its own
in_file : {A : Type 0} (p : Parser A) (bytes : List ℕ) (r j : ℕ) (a : A) → p bytes 0 ≡ taken r (read a j) (refused r) → Judges (file p bytes) [] r a
in_file {A} p bytes zero j a e = record { at = λ front rest. ap (λ (g : Got A). after g (λ a _ _. read a (length front)) bytes) e ∙ ap (read a) (sym (add-zero (length front))) }
in_file {A} p bytes (suc r) j a e = record { at = λ front rest. ap (λ (g : Got A). after g (λ a _ _. read a (length front)) bytes) e }

whole_file : {A : Type 0} (p : Parser A) (bytes : List ℕ) (r : ℕ) (a : A) → Judges p bytes r a → Judges (file p bytes) [] r a
whole_file p bytes r a g = in_file p bytes r (0 + length bytes) a (ap (λ (b : List ℕ). p b 0) (sym (append-nil bytes)) ∙ g.at [] [])

-- ---- the load

module _ (f : Format) (o : IvectorOptions) (t : List ℕ) (p : Params) (a : Fitting f p) where
  abbrev F : Files
  F = files_of f p t

  -- the tests of the three files
  abbrev files_tests : List Float → List (Bool × ℕ)
  files_tests row = gmm_tests f p a row ++ (extractor_tests f p a row ++ lda_tests f p a row)

  -- of the load but for its rooms
  abbrev pub set_tests : Got (List Float) → List (Bool × ℕ)
  set_tests c = (not (options_in_range o), 1) ∷ (files_tests (row_of c) ++ text_tests o p.sizes c)

  numbered : (c : Got (List Float)) → Numbered (set_tests c)
  numbered (refused n) = tt
  numbered (read row next) = tt

  module _ (row : List Float) where
    abbrev C : Contents
    C = contents_of f p row

    judges_gmm : Judges (file gmm F.gmm) [] (first_of (gmm_tests f p a row)) C.gmm
    judges_gmm =
        in_file gmm F.gmm (first_of (gmm_tests f p a row)) (0 + length (gmm_front f p a row)) C.gmm
        (ap (λ (b : List ℕ). gmm b 0) (gmm_bytes_is f p a row) ∙ (judges_front f p a row).at [] (token_bytes "</DiagGMM>"))

    abbrev with_row : Gmm → Extractor → Matrix → Parser Contents
    with_row g x l = file cmvn F.cmvn >>= (λ r. give (record { gmm = g; extractor = x; lda = l; global_row = r }))

    abbrev with_lda : Gmm → Extractor → Parser Contents
    with_lda g x = file lda F.lda >>= with_row g x

    abbrev with_extractor : Gmm → Parser Contents
    with_extractor g = file extractor F.extractor >>= with_lda g

    -- the four files, of which the text is judged by tests ts
    judges_reading : (ts : List (Bool × ℕ)) → Numbered ts → Judges (file cmvn F.cmvn) [] (first_of ts) row → Judges (reading F) [] (first_of (files_tests row ++ ts)) C
    judges_reading ts n h =
        judges_then with_extractor {x = []} {y = []} (gmm_tests f p a row) (extractor_tests f p a row ++ (lda_tests f p a row ++ ts)) tt judges_gmm
        (λ g. judges_then (with_lda C.gmm) {x = []} {y = []} (extractor_tests f p a row) (lda_tests f p a row ++ ts) tt
        (whole_file extractor F.extractor (first_of (extractor_tests f p a row)) C.extractor (judges_extractor f p a row g.1.1.0))
        (λ _. judges_then (with_row C.gmm C.extractor) {x = []} {y = []} (lda_tests f p a row) ts tt
        (whole_file lda F.lda (first_of (lda_tests f p a row)) C.lda (judges_lda f p a row g.1.1.0))
        (λ _. ends)))
      where
        ends : Judges (with_row C.gmm C.extractor C.lda) [] (first_of ts) C
        ends = judges_as (ap first_of (append-nil ts)) (judges_then (λ r. give (record { gmm = C.gmm; extractor = C.extractor; lda = C.lda; global_row = r })) {x = []} {y = []} ts [] n h (λ _. judges_none (reads_give C)))

    agrees : contents_agree o C ≡ dims_agree o (dims_with p.sizes (length row - 1))
    unfolding contents_agree all_of
    agrees =
        let same : eqb p.sizes.feat_dim p.sizes.feat_dim ≡ true = eq-eqb _ _ refl in
        rw same (and_true (dims_agree o (dims_with p.sizes (length row - 1))))
      where
        and_true : (b : Bool) → (b && true) ≡ b
        and_true true = refl
        and_true false = refl

    module _ (z : TableLengths) (n : ℕ) where
      abbrev rooms : Bool
      rooms = tables_fit o (dims_of C) z && leb (load_scratch (dims_of C)) n

      abbrev agree_tests : List (Bool × ℕ)
      agree_tests = (not (dims_agree o (dims_with p.sizes (length row - 1))), 5) ∷ (not rooms, 8) ∷ []

      judges_judged : Judges (judged o z n C) [] (first_of agree_tests) (model_of o C z)
      unfolding judged
      judges_judged =
          judges_as (ap (λ (b : Bool). first_of ((not b, 5) ∷ (not rooms, 8) ∷ [])) agrees)
          (judges_then (λ _. need rooms 8 >> give (model_of o C z)) {x = []} {y = []} ((not (contents_agree o C), 5) ∷ []) ((not rooms, 8) ∷ []) tt (judges_need (contents_agree o C) 4)
          (λ _. judges_then (λ _. give (model_of o C z)) {x = []} {y = []} ((not rooms, 8) ∷ []) [] tt (judges_need rooms 7) (λ _. judges_none (reads_give (model_of o C z)))))

  -- by what the text is
  judges_text : (c : Got (List Float)) → cmvn t 0 ≡ c → (z : TableLengths) (n : ℕ)
      → Judges (reading F >>= judged o z n) [] (first_of (files_tests (row_of c) ++ (text_tests o p.sizes c ++ ((not (rooms (row_of c) z n), 8) ∷ [])))) (model_of o (C (row_of c)) z)
  judges_text (refused r) e z n =
      let seven : r ≡ 7 = subst Seven e (cmvn_seven t 0) in
      let text : Judges (file cmvn F.cmvn) [] (first_of ((true, 7) ∷ [])) [] = judges_as (sym (first-here (true, 7) [] refl)) (in_file cmvn t 7 0 [] (e ∙ ap (λ (k : ℕ). refused k) seven)) in
      judges_then (judged o z n) {x = []} {y = []} (files_tests [] ++ ((true, 7) ∷ [])) ((not (rooms [] z n), 8) ∷ []) tt (judges_reading [] ((true, 7) ∷ []) tt text)
      (λ h. absurd (true≢false h.1.1.1.1.1.1.1.1.1.1.1.1.0))
  judges_text (read row next) e z n =
      judges_then (judged o z n) {x = []} {y = []} (files_tests row ++ []) (agree_tests row z n) tt (judges_reading row [] tt (judges_none (in_file cmvn t 0 next row e))) (λ _. judges_judged row z n)

  module _ (z : TableLengths) (n : ℕ) where
    abbrev row : List Float
    row = row_of (cmvn t 0)

    abbrev M : Model
    M = model_of o (C row) z

    abbrev pub load_tests : List (Bool × ℕ)
    load_tests = set_tests (cmvn t 0) ++ ((not (enough f o t p z n), 8) ∷ [])

    pub load_is : load o F z n ≡ taken (first_of load_tests) (read M 0) (refused (first_of load_tests))
    unfolding load loading
    load_is =
        (judges_then (λ _. reading F >>= judged o z n) {x = []} {y = []} ((not (options_in_range o), 1) ∷ []) (files_tests row ++ (text_tests o p.sizes (cmvn t 0) ++ ((not (rooms row z n), 8) ∷ []))) tt
        (judges_need (options_in_range o) 0) (λ _. judges_text (cmvn t 0) refl z n)).at [] []

    pub load_number : number_in (load o F z n) ≡ first_of load_tests
    load_number = ap number_in load_is ∙ number_of_taken (first_of load_tests) M 0

  -- ---- the call

  abbrev pub set_number : ℕ
  set_number = first_of (set_tests (cmvn t 0))

  pub same_tests : (room : ℕ) → write_refusal f o t p room ≡ first_of (set_tests (cmvn t 0) ++ ((ltb room (length (model_bytes f p)), 26) ∷ []))
  unfolding write_refusal first_of
  same_tests room =
      rw (
        eq-eqb _ _ a.weights.long,
        eq-eqb _ _ a.means.long,
        eq-eqb _ _ a.vars.long,
        eq-eqb _ _ a.m.long,
        eq-eqb _ _ a.sigma.long,
        eq-eqb _ _ a.lda.long,
      )

  pub call_number : (room : ℕ) → write_refusal f o t p room ≡ taken set_number (if ltb room (length (model_bytes f p)) then 26 else 0) set_number
  unfolding first_of
  call_number room =
      same_tests room ∙ first_append (set_tests (cmvn t 0)) ((ltb room (length (model_bytes f p)), 26) ∷ []) (numbered (cmvn t 0))
      ∙ ap (λ (k : ℕ). taken set_number k set_number) (one (ltb room (length (model_bytes f p))))
    where
      one : (b : Bool) → first_of ((b, 26) ∷ []) ≡ (if b then 26 else 0)
      one b = refl

  -- of a load with rooms that are enough
  pub load_enough : (z : TableLengths) (n : ℕ) → enough f o t p z n ≡ true → number_in (load o F z n) ≡ set_number
  unfolding first_of
  load_enough z n h =
      load_number z n ∙ first_append (set_tests (cmvn t 0)) ((not (enough f o t p z n), 8) ∷ []) (numbered (cmvn t 0))
      ∙ ap (λ (k : ℕ). taken set_number k set_number) (none (enough f o t p z n) h) ∙ same set_number
    where
      none : (b : Bool) → b ≡ true → first_of ((not b, 8) ∷ []) ≡ 0
      none b h = ap (λ (b : Bool). first_of ((not b, 8) ∷ [])) h

      same : (r : ℕ) → taken r 0 r ≡ r
      same zero = refl
      same (suc r) = refl

  -- where a load with any rooms refuses nothing
  pub none_of_load : (z : TableLengths) (n : ℕ) → number_in (load o F z n) ≡ 0 → set_number ≡ 0
  none_of_load z n h = go set_number refl
    where
      go : (r : ℕ) → set_number ≡ r → set_number ≡ 0
      go zero e = e
      go (suc r) e =
          let some : set_number ≡ 0 → ⊥ = λ z. omega arith in
          let all : first_of (load_tests z n) ≡ set_number = first_already (set_tests (cmvn t 0)) _ some in
          sym all ∙ sym (load_number z n) ∙ h

  -- of its tests only that of the rooms is left
  pub only_rooms : (z : TableLengths) (n : ℕ) → set_number ≡ 0 → first_of (load_tests z n) ≡ first_of ((not (enough f o t p z n), 8) ∷ [])
  only_rooms z n e = first_then (set_tests (cmvn t 0)) ((not (enough f o t p z n), 8) ∷ []) (numbered (cmvn t 0)) e

pub refuses : Refuses
refuses f o t p room h z n k =
    let a = fitting f p h in
    call_number f o t p a room
    ∙ ap (λ (r : ℕ). taken r (if ltb room (length (model_bytes f p)) then 26 else 0) r) (sym (load_enough f o t p a z n k))

-- a set that load accepts is taken by the call
pub accepted_taken : (f : Format) (o : IvectorOptions) (t : List ℕ) (p : Params) → Accepted f o t p → (room : ℕ) → length (model_bytes f p) ≤ room → write_refusal f o t p room ≡ 0
accepted_taken f o t p acc room h =
    let a = fitting f p acc.shaped in
    call_number f o t p a room ∙ taken_new (set_number f o t p a) _ _ (none_of_load f o t p a acc.tables acc.scratch acc.loaded)
    ∙ ap (λ (b : Bool). if b then 26 else 0) (le-ltb room (length (model_bytes f p)) h)

-- ---- and a set that the call takes is one that load accepts, into tables and scratch of exactly the model's lengths

same-leb : (n : ℕ) → leb n n ≡ true
same-leb n = le-leb n n (omega arith)

all_fit : (l : List ℕ) → pairwise leb l l ≡ true
all_fit [] = refl
all_fit (n ∷ l) = and_both _ _ (same-leb n) (all_fit l)

fit_exactly : (f : Format) (o : IvectorOptions) (t : List ℕ) (p : Params)
    → (let d = dims_of (contents_of f p (row_of (cmvn t 0))) in enough f o t p (table_sizes o d) (load_scratch d) ≡ true)
unfolding tables_fit
fit_exactly f o t p =
    let c = dims_of (contents_of f p (row_of (cmvn t 0))) in
    and_both _ _ (all_fit (table_lengths (table_sizes o c))) (same-leb (load_scratch c))

shaped : (f : Format) (o : IvectorOptions) (t : List ℕ) (p : Params) (room : ℕ) → Sound f o t p room → all_true (of_width f p) ≡ true → Shaped f p
unfolding all_of
shaped f o t p room so w =
    let big : (most n : ℕ) → most < 2 ^ 32 → Sized most n → ltb n (2 ^ 32) ≡ true = λ most n h z. lt-ltb n (2 ^ 32) (omega (arith, z.high)) in
    record {
      in_four_bytes_is =
          of_each (λ (b : Bool). b) (in_four_bytes p.sizes) (
            big max_gauss _ (omega arith) so.gauss,
            (big max_gauss _ (omega arith) so.ext, (big max_feat _ (omega arith) so.feat, (big max_ivector _ (omega arith) so.ivector, (big max_columns _ (omega arith) so.columns, tt)))),
          );
      of_sizes_is =
          of_each (λ (b : Bool). b) (of_sizes p) (
            eq-eqb _ _ so.weights.long,
            (eq-eqb _ _ so.means.long, (eq-eqb _ _ so.vars.long, (eq-eqb _ _ so.m.long, (eq-eqb _ _ so.sigma.long, (eq-eqb _ _ so.lda.long, tt))))),
          );
      of_width_is = w;
    }

zero_taken : (r k : ℕ) → taken r k r ≡ 0 → r ≡ 0
zero_taken zero k e = refl
zero_taken (suc r) k e = e

pub takes : Takes
takes f o t p room e w =
    let so : Sound f o t p room = sound f o t p room e in
    let h : Shaped f p = shaped f o t p room so w in
    let d = dims_of (contents_of f p (row_of (cmvn t 0))) in
    let r : ℕ = number_in (load o (files_of f p t) (table_sizes o d) (load_scratch d)) in
    let none : taken r (if ltb room (length (model_bytes f p)) then 26 else 0) r ≡ 0 = sym (refuses f o t p room h (table_sizes o d) (load_scratch d) (fit_exactly f o t p)) ∙ e in
    (record { shaped = h; tables = table_sizes o d; scratch = load_scratch d; loaded = zero_taken r _ none }, so.fits_in)

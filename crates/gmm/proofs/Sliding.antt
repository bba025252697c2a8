-- What `slide` and the walk from the last on leave, and that at the right place it is an insertion.
use mathlib.Core.Path.{◌≡◌, refl, sym, ap, ◌∙◌}
use mathlib.Core.Bool.{true, false}
use mathlib.Core.List.{List, [], ◌∷◌, zip_with}
use Prim.Native.Nat.{ℕ, zero, suc, ◌+◌, ◌-◌, ◌≤◌, ◌<◌}
use native.Mathlib.Nat.{not-suc-le-zero, le_of_suc-le-suc}
use native.Mathlib.Numerals.{add-one}
use native.Mathlib.Omega.{arith}
use borrow.Author.Tests.{ltb-true, ltb-false}
use lib.Dec.{ltb}
use lib.ListN.{length, get_or, set, take}
use lib.Seq.{take-take, take_all, length-take-le}
use lib.Ieee.{Float, nan}
use Rattle.loops.proofs.Choose.{by-test}
use Rattle.loops.proofs.Parts.{zip_at, zip_long}
use Rattle.floats.specs.Operators.{at}
use Rattle.definition.specs.Posteriors.{Post, ahead, insert}
use Rattle.gmm.specs.Inner.Leading.{post, posts_in, slid, Falling, Place}
use Rattle.gmm.proofs.Sorting.{length-insert}
use Rattle.gmm.proofs.Ordered.{not-ahead_trans}

module _ {A : Type 0} where
  slid_one : (d : A) (j n : ℕ) (p : A) (z : List A) → j < n → j < length z → slid (suc j) n (get_or z j d) (set z j p) ≡ slid j n p z
  unfolding slid
  slid_one d zero zero p z h l = absurd (not-suc-le-zero h)
  slid_one d zero (suc n) p [] h l = absurd (not-suc-le-zero l)
  slid_one d zero (suc n) p (q ∷ z) h l = refl
  slid_one d (suc j) zero p z h l = absurd (not-suc-le-zero h)
  slid_one d (suc j) (suc n) p [] h l = absurd (not-suc-le-zero l)
  slid_one d (suc j) (suc n) p (q ∷ z) h l = ap (λ (r : List A). q ∷ r) (slid_one d j n p z (le_of_suc-le-suc h) (le_of_suc-le-suc l))

  slid_turn : (d : A) (j n : ℕ) (p : A) (z : List A) {y : List A} → j < n → j < length z → slid j n p z ≡ y → slid (j + 1) n (get_or z j d) (set z j p) ≡ y
  slid_turn d j n p z h l e = rw (add-one j) (slid_one d j n p z h l ∙ e)

  -- the same, with the place's value at hand
  pub slid_next : (j n : ℕ) (p x : A) (z : List A) {y : List A} → j < n → j < length z → x ≡ get_or z j x → slid j n p z ≡ y → slid (j + 1) n x (set z j p) ≡ y
  slid_next j n p x z h l i e = ap (λ (v : A). slid (j + 1) n v (set z j p)) i ∙ slid_turn x j n p z h l e

  slid_past : (j n : ℕ) (p : A) (z : List A) → n ≤ j → slid j n p z ≡ z
  unfolding slid
  slid_past zero zero p z h = refl
  slid_past zero (suc n) p z h = absurd (not-suc-le-zero h)
  slid_past (suc j) zero p z h = refl
  slid_past (suc j) (suc n) p [] h = refl
  slid_past (suc j) (suc n) p (q ∷ z) h = ap (λ (r : List A). q ∷ r) (slid_past j n p z (le_of_suc-le-suc h))

  pub slid_end : (j n : ℕ) (p : A) (z : List A) {y : List A} → n ≤ j → slid j n p z ≡ y → z ≡ y
  slid_end j n p z h e = sym (slid_past j n p z h) ∙ e

  pub length_slid : (j n : ℕ) (p : A) (z : List A) → length (slid j n p z) ≡ length z
  unfolding slid
  length_slid zero zero p z = refl
  length_slid zero (suc n) p [] = refl
  length_slid zero (suc n) p (q ∷ z) = ap suc (length_slid zero n q z)
  length_slid (suc j) zero p z = refl
  length_slid (suc j) (suc n) p [] = refl
  length_slid (suc j) (suc n) p (q ∷ z) = ap suc (length_slid j n p z)

  -- ---- from the last on: with the place at j held twice, those behind it have moved up

  slid_own : (d : A) (j : ℕ) (z : List A) → j < length z → z ≡ slid j (suc j) (get_or z j d) z
  unfolding slid
  slid_own d zero [] h = absurd (not-suc-le-zero h)
  slid_own d zero (q ∷ z) h = refl
  slid_own d (suc j) [] h = absurd (not-suc-le-zero h)
  slid_own d (suc j) (q ∷ z) h = ap (λ (r : List A). q ∷ r) (slid_own d j z (le_of_suc-le-suc h))

  pub back_none : (d : A) (j : ℕ) (z : List A) → j < length z → z ≡ slid j (j + 1) (get_or z j d) z
  back_none d j z h = rw (add-one j) (slid_own d j z h)

  slid_set : (j n : ℕ) (x p : A) (z : List A) → j < n → set (slid j n x z) j p ≡ slid j n p z
  unfolding slid
  slid_set zero zero x p z h = absurd (not-suc-le-zero h)
  slid_set zero (suc n) x p [] h = refl
  slid_set zero (suc n) x p (q ∷ z) h = refl
  slid_set (suc j) zero x p z h = absurd (not-suc-le-zero h)
  slid_set (suc j) (suc n) x p [] h = refl
  slid_set (suc j) (suc n) x p (q ∷ z) h = ap (λ (r : List A). q ∷ r) (slid_set j n x p z (le_of_suc-le-suc h))

  slid_before : (d : A) (j n : ℕ) (x : A) (z : List A) (k : ℕ) → k < j → get_or (slid j n x z) k d ≡ get_or z k d
  unfolding slid
  slid_before d zero n x z k h = absurd (not-suc-le-zero h)
  slid_before d (suc j) zero x z k h = refl
  slid_before d (suc j) (suc n) x [] k h = refl
  slid_before d (suc j) (suc n) x (q ∷ z) zero h = refl
  slid_before d (suc j) (suc n) x (q ∷ z) (suc k) h = slid_before d j n x z k (le_of_suc-le-suc h)

  -- in front of its equal or behind it
  slid_twice : (d : A) (j n : ℕ) (z : List A) → j < n → j < length z → slid (suc j) n (get_or z j d) z ≡ slid j n (get_or z j d) z
  unfolding slid
  slid_twice d zero zero z h l = absurd (not-suc-le-zero h)
  slid_twice d zero (suc n) [] h l = absurd (not-suc-le-zero l)
  slid_twice d zero (suc n) (q ∷ z) h l = refl
  slid_twice d (suc j) zero z h l = absurd (not-suc-le-zero h)
  slid_twice d (suc j) (suc n) [] h l = absurd (not-suc-le-zero l)
  slid_twice d (suc j) (suc n) (q ∷ z) h l = ap (λ (r : List A). q ∷ r) (slid_twice d j n z (le_of_suc-le-suc h) (le_of_suc-le-suc l))

  pub back_in : (d : A) (j n : ℕ) (x : A) (z : List A) (k : ℕ) {y : List A} → k < j → y ≡ slid j n x z → get_or y k d ≡ get_or z k d
  back_in d j n x z k h e = ap (λ (r : List A). get_or r k d) e ∙ slid_before d j n x z k h

  pub back_turn : (d : A) (j n : ℕ) (x : A) (z : List A) {y : List A} → 0 < j → j < n → j < length z → y ≡ slid j n x z
      → set y j (get_or y (j - 1) d) ≡ slid (j - 1) n (get_or z (j - 1) d) z
  back_turn d j n x z {y} h l g e =
      let o : suc (j - 1) ≡ j = omega arith in
      let v : A = get_or z (j - 1) d in
      ap (set y j) (back_in d j n x z (j - 1) (omega arith) e) ∙ ap (λ (r : List A). set r j v) e ∙ slid_set j n x v z l ∙ sym (ap (λ (i : ℕ). slid i n v z) o)
      ∙ slid_twice d (j - 1) n z (omega arith) (omega arith)

  -- a turn at place k, which leads to place m
  pub back_step : (d : A) (k m n : ℕ) (x : A) (z : List A) {y y₁ : List A} → m + 1 ≡ k → k < n → k < length z → y ≡ slid k n x z → y₁ ≡ set y k (get_or y (k - 1) d) → y₁ ≡ slid m n (get_or z m d) z
  back_step d k m n x z o l g e f = let i : m ≡ k - 1 = omega arith in rw i (f ∙ back_turn d k n x z (omega arith) l g e)

  pub back_end : (j n : ℕ) (x p : A) (z : List A) {y : List A} → j < n → y ≡ slid j n x z → set y j p ≡ slid j n p z
  back_end j n x p z h e = ap (λ (r : List A). set r j p) e ∙ slid_set j n x p z h

  slid_front : (n : ℕ) (p : A) (z : List A) → n ≤ length z → take n (slid 0 n p z) ≡ take n (p ∷ z)
  unfolding slid
  slid_front zero p z h = refl
  slid_front (suc n) p [] h = absurd (not-suc-le-zero h)
  slid_front (suc n) p (q ∷ z) h = ap (λ (r : List A). p ∷ r) (slid_front n q z (le_of_suc-le-suc h))

  take_longer : (m n : ℕ) (p : A) (z : List A) → m ≤ suc n → take m (p ∷ take n z) ≡ take m (p ∷ z)
  take_longer zero n p z h = refl
  take_longer (suc m) n p z h = ap (λ (r : List A). p ∷ r) (take-take m n z (le_of_suc-le-suc h))

-- both rooms at once
zip_slid : {A B C : Type 0} (f : A → B → C) (j n : ℕ) (a : A) (b : B) (xs : List A) (ys : List B) → zip_with f (slid j n a xs) (slid j n b ys) ≡ slid j n (f a b) (zip_with f xs ys)
unfolding zip_with slid
zip_slid f zero zero a b xs ys = refl
zip_slid f zero (suc n) a b [] ys = refl
zip_slid f zero (suc n) a b (x ∷ xs) [] = refl
zip_slid {C = C} f zero (suc n) a b (x ∷ xs) (y ∷ ys) = ap (λ (r : List C). f a b ∷ r) (zip_slid f zero n x y xs ys)
zip_slid f (suc j) zero a b xs ys = refl
zip_slid f (suc j) (suc n) a b [] ys = refl
zip_slid f (suc j) (suc n) a b (x ∷ xs) [] = refl
zip_slid {C = C} f (suc j) (suc n) a b (x ∷ xs) (y ∷ ys) = ap (λ (r : List C). f x y ∷ r) (zip_slid f j n a b xs ys)

-- among the first n, r is the place of p: an insertion, of which m are kept
slid-insert : (p d : Post) (r n m : ℕ) (z : List Post) → r ≤ n → m ≤ suc n → m ≤ length z → ((k : ℕ) → k < r → ahead p (get_or z k d) ≡ false)
    → (r < n → ahead p (get_or z r d) ≡ true) → take m (slid r m p z) ≡ take m (insert p (take n z))
unfolding slid insert
slid-insert p d zero zero m z h l g low here = slid_front m p z g ∙ sym (take_longer m 0 p z l)
slid-insert p d zero (suc n) zero z h l g low here = refl
slid-insert p d zero (suc n) (suc m) [] h l g low here = absurd (not-suc-le-zero g)
slid-insert p d zero (suc n) (suc m) (q ∷ z) h l g low here = rw (here (omega arith)) (slid_front (suc m) p (q ∷ z) g ∙ sym (take_longer (suc m) (suc n) p (q ∷ z) l))
slid-insert p d (suc r) zero m z h l g low here = absurd (not-suc-le-zero h)
slid-insert p d (suc r) (suc n) zero z h l g low here = refl
slid-insert p d (suc r) (suc n) (suc m) [] h l g low here = absurd (not-suc-le-zero g)
slid-insert p d (suc r) (suc n) (suc m) (q ∷ z) h l g low here =
    rw (low 0 (omega arith))
    (ap (λ (s : List Post). q ∷ s) (slid-insert p d r n m z (le_of_suc-le-suc h) (le_of_suc-le-suc l) (le_of_suc-le-suc g) (λ k s. low (suc k) (omega arith)) (λ s. here (omega arith))))

-- with what is held falling, p is ahead of none in front of the one at j - 1, which it is not ahead of
pub in_front : (n : ℕ) (posts : List Float) (p : Float) (j : ℕ) → Falling n posts → 0 < j → j ≤ n → ahead (0, p) (0, at posts (j - 1)) ≡ false
    → (k : ℕ) → k < j → ahead (0, p) (0, at posts k) ≡ false
in_front n posts p j f h l e k s =
    by-test (ltb k (j - 1)) (λ t. let o = ltb-true k (j - 1) t in not-ahead_trans (0, p) (0, at posts (j - 1)) (0, at posts k) e (f.behind k (j - 1) o (omega arith)))
    (λ t. let o = ltb-false k (j - 1) t in let i : k ≡ j - 1 = omega arith in rw i e)

pub falls_less : (m n : ℕ) (posts : List Float) → m ≤ n → Falling n posts → Falling m posts
falls_less m n posts h f = record { behind = λ i j s t. f.behind i j s (omega arith) }

-- as `insert` has it: a room for k that holds n
module _ (g : ℕ) (p : Float) (r n k : ℕ) (chosen : List ℕ) (posts : List Float) (low : n ≤ k) (fits : k ≤ length chosen) (fits2 : k ≤ length posts) where
  -- m are held after it
  held_slid : {c : List ℕ} {q : List Float} (m : ℕ) → m ≤ k → m ≤ n + 1 → Place p n posts r → c ≡ slid r m g chosen → q ≡ slid r m p posts → posts_in m c q ≡ take m (insert (g, p) (posts_in n chosen posts))
  unfolding posts_in
  held_slid {c} {q} m l o w e f =
      let z : List Post = zip_with post chosen posts in
      let at-z : (i : ℕ) → i < n → get_or z i (0, p) ≡ (get_or chosen i 0, at posts i) = λ i s. zip_at post 0 nan (0, p) chosen posts i (omega arith) (omega arith) in
      let h = w.most in
      ap (take m) (ap (λ (x : List ℕ). zip_with post x q) e ∙ ap (zip_with post (slid r m g chosen)) f ∙ zip_slid post r m g p chosen posts)
      ∙ slid-insert (g, p) (0, p) r n m z h (omega arith) (zip_long post chosen posts m (omega arith) (omega arith))
      (λ i s. rw (at-z i (omega arith)) (w.front i s)) (λ s. rw (at-z r s) (w.here s))

  length_inserted : length (insert (g, p) (posts_in n chosen posts)) ≡ suc n
  unfolding posts_in
  length_inserted = omega (arith, length-insert (g, p) (posts_in n chosen posts), length-take-le n (zip_with post chosen posts) (zip_long post chosen posts n (omega arith) (omega arith)))

  -- one more
  pub insert_more : {c : List ℕ} {q : List Float} → n < k → Place p n posts r → c ≡ slid r (n + 1) g chosen → q ≡ slid r (n + 1) p posts → posts_in (n + 1) c q ≡ take k (insert (g, p) (posts_in n chosen posts))
  insert_more l w e f =
      held_slid (n + 1) (omega arith) (omega arith) w e f ∙ take_all (n + 1) _ (omega (arith, length_inserted)) ∙ sym (take_all k _ (omega (arith, length_inserted)))

  -- as many as before
  insert_full : {c : List ℕ} {q : List Float} → k ≤ n → Place p n posts r → c ≡ slid r n g chosen → q ≡ slid r n p posts → posts_in n c q ≡ take k (insert (g, p) (posts_in n chosen posts))
  insert_full l w e f = let s : n ≡ k = omega arith in held_slid n (omega arith) (omega arith) w e f ∙ ap (λ (i : ℕ). take i (insert (g, p) (posts_in n chosen posts))) s

  -- ahead of the last, which falls off
  pub insert_last : {c : List ℕ} {q : List Float} → k ≤ n → 0 < n → ahead (0, p) (0, at posts (n - 1)) ≡ true → Place p (n - 1) posts r
      → c ≡ slid r (n - 1 + 1) g chosen → q ≡ slid r (n - 1 + 1) p posts → posts_in n c q ≡ take k (insert (g, p) (posts_in n chosen posts))
  insert_last l h a w e f =
      let o : n - 1 + 1 ≡ n = omega arith in
      let m = w.most in
      let here : r < n → ahead (0, p) (0, at posts r) ≡ true = λ s.
      by-test (ltb r (n - 1)) (λ t. w.here (ltb-true r (n - 1) t)) (λ t. let u = ltb-false r (n - 1) t in let i : r ≡ n - 1 = omega arith in rw i a) in
      insert_full l (record { most = omega arith; front = w.front; here = here }) (e ∙ ap (λ (i : ℕ). slid r i g chosen) o) (f ∙ ap (λ (i : ℕ). slid r i p posts) o)

-- ahead of none: it falls off itself
pub insert-none : (g : ℕ) (p : Float) (n k : ℕ) (chosen : List ℕ) (posts : List Float) → n ≤ k → k ≤ length chosen → k ≤ length posts → k ≤ n
    → ((i : ℕ) → i < n → ahead (0, p) (0, at posts i) ≡ false) → posts_in n chosen posts ≡ take k (insert (g, p) (posts_in n chosen posts))
insert-none g p n k chosen posts low fits fits2 l f =
    insert_full g p n n k chosen posts low fits fits2 l (record { most = omega arith; front = f; here = λ s. absurd (omega arith) }) (sym (slid_past n n g chosen (omega arith))) (sym (slid_past n n p posts (omega arith)))

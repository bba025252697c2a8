-- A posterior goes to its Gaussian's slot: the rooms then hold the sums of one entry more.
use Rattle.std.proofs.Common.{◌≡◌, ℕ, ◌+◌, ◌*◌, ◌<◌, ◌≤◌, true, false, eqb, ltb, List, [], ◌∷◌, ◌++◌, length, get_or, take, set, replicate, sym, ap, ◌∙◌, add-one, arith, length-take-le, get_or-set_other, get_or-take, get_or-set_same, take-suc-set, ltb-false, ltb-true, eq-eqb, ne_eqb, eqb-true}
use lib.ListN.{length-replicate}
use borrow.Author.Tests.{eqb-false}
use lib.Ieee.{Float, nan}
use Rattle.loops.specs.Lists.{build, any_of}
use Rattle.loops.specs.Ring.{put}
use Rattle.loops.proofs.Choose.{by-test}
use Rattle.loops.proofs.Build.{length_build, at_build, build_same}
use Rattle.loops.proofs.Fill.{put_at, put_before, put_past}
use Rattle.loops.proofs.Ring.{row_apart}
use Rattle.loops.proofs.Tests.{at_some, at_none}
use Rattle.floats.specs.Operators.{◌+₆₄◌, ◌*₆₄◌, zero₆₄, at}
use Rattle.definition.specs.Statistics.{Entry, seen, sum_for}
use Rattle.gmm.specs.Inner.Posteriors.{Fair}
use Rattle.gmm.specs.Batch.{entry_of, weight, feature, Slots, Sums}
use Rattle.gmm.proofs.Entries.{seen_again, seen_first, sum_own, sum_other, sum_unseen}
use Rattle.gmm.proofs.Places.{slots_apart, slot_tot, slot_sum}

-- ---- one number of each slot, by r: over the entries es, the sum of what v is of each

abbrev pub Summed : (Entry → Float) → List Entry → ℕ → List ℕ → (ℕ → Float) → Type 0
Summed v es m gs r = (k : ℕ) → k < m → r k ≡ sum_for es (get_or gs k 0) v

module _ (v : Entry → Float) (es : List Entry) (m : ℕ) (gs : List ℕ) (r r' : ℕ → Float) (h : Summed v es m gs r) where
  pub summed_give : (n k : ℕ) (e : Entry) → Fair n m gs → k < m → get_or gs k 0 ≡ e.gauss → r' k ≡ r k +₆₄ v e → ((j : ℕ) → (j ≡ k → ⊥) → r' j ≡ r j)
      → Summed v (es ++ (e ∷ [])) m gs r'
  summed_give n k e fair l own new old j p =
      by-test (eqb j k)
      (λ t. rw (eqb-true j k t) (new ∙ ap (λ (x : Float). x +₆₄ v e) (h k l) ∙ sym (sum_own es e (get_or gs k 0) v (eq-eqb e.gauss (get_or gs k 0) (sym own)))))
      (λ t. let ne = eqb-false j k t in
      old j ne ∙ h j p ∙ sym (sum_other es e (get_or gs j 0) v (ne_eqb e.gauss (get_or gs j 0) (λ q. slots_apart n m gs fair j k p l ne (sym (own ∙ q))))))

  summed_begin : (g : ℕ) → m < length gs → any_of (eqb g) (seen es) ≡ false → r' m ≡ zero₆₄ → ((j : ℕ) → (j ≡ m → ⊥) → r' j ≡ r j) → Summed v es (m + 1) (set gs m g) r'
  summed_begin g l unseen new old j p =
      by-test (eqb j m)
      (λ t. rw (eqb-true j m t, get_or-set_same gs m g 0 l) (new ∙ sym (sum_unseen es g v unseen)))
      (λ t. let ne = eqb-false j m t in rw (get_or-set_other gs m j g 0 ne) (old j ne ∙ h j (omega arith)))

-- ---- row k of rows of d, written

module _ (d k : ℕ) (row room : List Float) (e : length row ≡ d) (l : k * d + d ≤ length room) (a : ℕ) (p : a < d) where
  row_own : at (put (k * d) row room) (k * d + a) ≡ at row a
  row_own = put_at nan (k * d) row room (omega arith) a (omega arith)

  row_other : (j : ℕ) → (j ≡ k → ⊥) → at (put (k * d) row room) (j * d + a) ≡ at room (j * d + a)
  row_other j ne =
      by-test (ltb j k)
      (λ t. let q = row_apart d j k (ltb-true j k t) in put_before nan (k * d) row room (omega arith) (j * d + a) (omega arith))
      (λ t. let u = ltb-false j k t in let q = row_apart d k j (omega arith) in put_past nan (k * d) row room (omega arith) (j * d + a) (omega arith))

-- ---- the rooms, but for the order

pub record Held (d : ℕ) (es : List Entry) (m : ℕ) (gs : List ℕ) (tot sum : List Float) : Type 0 where
  pub weight_is : Summed weight es m gs (at tot)
  pub features_are : (a : ℕ) → a < d → Summed (feature a) es m gs (λ k. at sum (k * d + a))

module _ (d : ℕ) (es : List Entry) (m : ℕ) (gs : List ℕ) (tot sum : List Float) (h : Held d es m gs tot sum) where
  held_give : (n k g : ℕ) (w : Float) (x : List Float) {tot' sum' : List Float} → Fair n m gs → k < m → get_or gs k 0 ≡ g → k < length tot → k * d + d ≤ length sum
      → tot' ≡ set tot k (at tot k +₆₄ w) → sum' ≡ put (k * d) (build d (λ a. at sum (k * d + a) +₆₄ w *₆₄ at x a)) sum
      → Held d (es ++ (entry_of x (g, w) ∷ [])) m gs tot' sum'
  held_give n k g w x fair l own p q e f =
      let row = build d (λ a. at sum (k * d + a) +₆₄ w *₆₄ at x a) in
      rw (e, f)
      (record {
        weight_is = summed_give weight es m gs (at tot) _ h.weight_is n k (entry_of x (g, w)) fair l own (get_or-set_same tot k _ nan p) (λ j ne. get_or-set_other tot k j _ nan ne);
        features_are = λ a c. summed_give (feature a) es m gs _ _ (h.features_are a c) n k (entry_of x (g, w)) fair l own
            (row_own d k row sum (length_build d _) q a c ∙ at_build nan d _ a c)
            (row_other d k row sum (length_build d _) q a c);
      })

  held_begin : (g : ℕ) {gs' : List ℕ} {tot' sum' : List Float} → any_of (eqb g) (seen es) ≡ false → m < length gs → m < length tot → m * d + d ≤ length sum
      → gs' ≡ set gs m g → tot' ≡ set tot m zero₆₄ → sum' ≡ put (m * d) (replicate d zero₆₄) sum
      → Held d es (m + 1) gs' tot' sum'
  held_begin g unseen l p q e f i =
      let row = replicate d zero₆₄ in
      rw (e, f, i)
      (record {
        weight_is = summed_begin weight es m gs (at tot) _ h.weight_is g l unseen (get_or-set_same tot m _ nan p) (λ j ne. get_or-set_other tot m j _ nan ne);
        features_are = λ a c. summed_begin (feature a) es m gs _ _ (h.features_are a c) g l unseen
            (row_own d m row sum (length-replicate d zero₆₄) q a c ∙ ap (λ (l : List Float). at l a) (sym (build_same d zero₆₄)) ∙ at_build nan d _ a c)
            (row_other d m row sum (length-replicate d zero₆₄) q a c);
      })

-- ---- with the order: g was seen, or not

module _ (n d m g : ℕ) (w : Float) (x : List Float) (gs : List ℕ) (tot sum : List Float) (z : Slots n d m gs tot sum) (es : List Entry) (h : Sums d es m gs tot sum) where
  length_seen : length (seen es) ≡ m
  length_seen = ap length (sym h.in_order) ∙ length-take-le m gs (omega (arith, z.room, z.seen_long))

  seen_at : (k : ℕ) → k < m → get_or (seen es) k 0 ≡ get_or gs k 0
  seen_at k l = ap (λ (s : List ℕ). get_or s k 0) (sym h.in_order) ∙ get_or-take m gs k 0 l

  was_seen : (k : ℕ) → k < m → get_or gs k 0 ≡ g → any_of (eqb g) (seen es) ≡ true
  was_seen k l e = at_some (eqb g) 0 (seen es) k (omega (arith, length_seen)) (eq-eqb g (get_or (seen es) k 0) (sym (seen_at k l ∙ e)))

  not_seen : (r : ℕ) → m ≤ r → ((k : ℕ) → k < r → get_or gs k 0 ≡ g → ⊥) → any_of (eqb g) (seen es) ≡ false
  not_seen r all ne =
      at_none (eqb g) 0 (seen es)
      (λ k l. let p : k < m = omega (arith, length_seen) in ne_eqb g (get_or (seen es) k 0) (λ e. ne k (omega arith) (sym (seen_at k p) ∙ sym e)))

  sums_held : Held d es m gs tot sum
  sums_held = record { weight_is = h.weight_is; features_are = h.features_are }

  pub entered_again : (k : ℕ) {tot' sum' : List Float} → k < m → get_or gs k 0 ≡ g
      → tot' ≡ set tot k (at tot k +₆₄ w) → sum' ≡ put (k * d) (build d (λ a. at sum (k * d + a) +₆₄ w *₆₄ at x a)) sum
      → Sums d (es ++ (entry_of x (g, w) ∷ [])) m gs tot' sum'
  entered_again k l own e f =
      let q : k < n = omega (arith, z.room) in
      let r = held_give d es m gs tot sum sums_held n k g w x z.fair l own (slot_tot n d m gs tot sum z k q) (slot_sum n d m gs tot sum z k q) e f in
      record { in_order = h.in_order ∙ sym (seen_again es (entry_of x (g, w)) (was_seen k l own)); weight_is = r.weight_is; features_are = r.features_are }

  -- slot m is begun, then given to
  pub entered_first : (r : ℕ) {gs' : List ℕ} {tot' sum' tot'' sum'' : List Float} → m < n → Fair n (m + 1) gs' → m ≤ r → ((k : ℕ) → k < r → get_or gs k 0 ≡ g → ⊥)
      → length tot' ≡ length tot → length sum' ≡ length sum
      → gs' ≡ set gs m g → tot' ≡ set tot m zero₆₄ → sum' ≡ put (m * d) (replicate d zero₆₄) sum
      → tot'' ≡ set tot' m (at tot' m +₆₄ w) → sum'' ≡ put (m * d) (build d (λ a. at sum' (m * d + a) +₆₄ w *₆₄ at x a)) sum'
      → Sums d (es ++ (entry_of x (g, w) ∷ [])) (m + 1) gs' tot'' sum''
  entered_first r {gs'} {tot'} {sum'} place fair all ne lt ls e f i e' f' =
      let unseen = not_seen r all ne in
      let l : m < length gs = omega (arith, z.seen_long) in
      let p = slot_tot n d m gs tot sum z m place in
      let q = slot_sum n d m gs tot sum z m place in
      let own : get_or gs' m 0 ≡ g = ap (λ (s : List ℕ). get_or s m 0) e ∙ get_or-set_same gs m g 0 l in
      let b = held_begin d es m gs tot sum sums_held g unseen l p q e f i in
      let r = held_give d es (m + 1) gs' tot' sum' b n m g w x fair (omega arith) own (omega arith) (omega arith) e' f' in
      record {
        in_order =
            ap (take (m + 1)) e ∙ ap (λ (k : ℕ). take k (set gs m g)) (add-one m) ∙ take-suc-set gs m g l ∙ ap (λ (s : List ℕ). s ++ (g ∷ [])) h.in_order
            ∙ sym (seen_first es (entry_of x (g, w)) unseen);
        weight_is = r.weight_is;
        features_are = r.features_are;
      }

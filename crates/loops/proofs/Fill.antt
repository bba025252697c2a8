-- Laws of rooms that loops write: a list from a place on (`put`); at the front, which is place 0 (`over`); by index at the front (`fill`).
use mathlib.Core.Path.{◌≡◌, refl, sym, ap, ◌∙◌}
use mathlib.Core.List.{List, [], ◌∷◌, ◌++◌, append-nil, append_assoc}
use Prim.Native.Nat.{ℕ, zero, suc, ◌+◌, ◌-◌, ◌≤◌, ◌<◌}
use native.Mathlib.Nat.{add-zero, zero-add}
use native.Mathlib.Numerals.{add-one}
use native.Mathlib.Omega.{arith}
use borrow.Author.Rules.{rules}
use lib.ListN.{length, get_or, set, take, drop, replicate, length-append, length-take, length-drop, take-append-drop, get_or-append}
use lib.Seq.{drop-cons, set_at, take_at, drop_at, drop-drop, drop-length, length-take-le, get_or-append-add, get_or-take, get_or-drop}
use Rattle.loops.specs.Loop.{iter}
use Rattle.loops.specs.Lists.{build, over}
use Rattle.loops.specs.Inner.{fill}
use Rattle.loops.specs.Ring.{put}
use Rattle.loops.proofs.Loop.{at_end}
use Rattle.loops.proofs.Build.{length_build, at_build, build_snoc, build_ext, build_add, build_take, build_list, build_same}

module _ {A : Type 0} where
  -- ---- put: a list from place a on

  pub length_put : (a : ℕ) (xs room : List A) → a + length xs ≤ length room → length (put a xs room) ≡ length room
  unfolding put
  length_put a xs room h = simp (length-append, length-drop, length-take) (omega arith)

  -- `&mut room[a..e]`, lent and come back, with k for e - a
  pub put_back : (a k : ℕ) (xs room : List A) → length xs ≡ k → take a room ++ (xs ++ drop k (drop a room)) ≡ put a xs room
  unfolding put
  put_back a k xs room e = ap (λ (s : List A). take a room ++ (xs ++ s)) (drop-drop k a room ∙ ap (λ (i : ℕ). drop (a + i) room) (sym e))

  -- the room in three parts
  pub put_mid : (xs ys zs rest : List A) (a : ℕ) → length xs ≡ a → length ys ≡ length zs → put a ys (xs ++ (zs ++ rest)) ≡ xs ++ (ys ++ rest)
  unfolding put
  put_mid xs ys zs rest a e h =
      ap (λ (l : List A). l ++ (ys ++ drop (a + length ys) (xs ++ (zs ++ rest)))) (take_at xs (zs ++ rest) a e)
      ∙ ap (λ (l : List A). xs ++ (ys ++ l))
      (sym (drop-drop (length ys) a _) ∙ ap (drop (length ys)) (drop_at xs (zs ++ rest) a e) ∙ drop_at zs rest (length ys) (sym h))

  module _ (d : A) (a : ℕ) (xs room : List A) (l : a ≤ length room) where
    pub put_at : (i : ℕ) → i < length xs → get_or (put a xs room) (a + i) d ≡ get_or xs i d
    unfolding put
    put_at i h =
        let e : a + i ≡ length (take a room) + i = ap (λ (k : ℕ). k + i) (sym (length-take-le a room l)) in
        ap (λ (k : ℕ). get_or (take a room ++ (xs ++ drop (a + length xs) room)) k d) e ∙ get_or-append-add (take a room) _ i d ∙ get_or-append xs _ d i h

    pub put_before : (k : ℕ) → k < a → get_or (put a xs room) k d ≡ get_or room k d
    unfolding put
    put_before k h = get_or-append (take a room) _ d k (omega (arith, length-take-le a room l)) ∙ get_or-take a room k d h

    pub put_past : (k : ℕ) → a + length xs ≤ k → get_or (put a xs room) k d ≡ get_or room k d
    unfolding put
    put_past k h =
        let m : ℕ = k - (a + length xs) in
        let e : k ≡ length (take a room ++ xs) + m = omega (arith, length-append (take a room) xs, length-take-le a room l) in
        let g : a + length xs + m ≡ k = omega arith in
        ap (λ (s : List A). get_or s k d) (sym (append_assoc (take a room) xs _))
        ∙ ap (λ (i : ℕ). get_or ((take a room ++ xs) ++ drop (a + length xs) room) i d) e
        ∙ get_or-append-add (take a room ++ xs) _ m d ∙ get_or-drop (a + length xs) room m d ∙ ap (λ (i : ℕ). get_or room i d) g

  -- ---- a loop that writes places a, a + 1, ..

  pub put_none : (a : ℕ) (g : ℕ → A) (room : List A) → room ≡ put a (build 0 g) room
  unfolding put build
  put_none a g room = rw add-zero (sym (take-append-drop a room))

  put_suc : (a : ℕ) (g : ℕ → A) (i : ℕ) (room : List A) → a + i < length room → set (put a (build i g) room) (a + i) (g i) ≡ put a (build (suc i) g) room
  unfolding put
  put_suc a g i room h =
      let xs : List A = build i g in
      let y : A = get_or room (a + i) (g i) in
      let r : List A = drop (suc (a + i)) room in
      let e1 : drop (a + length xs) room ≡ y ∷ r = ap (λ (k : ℕ). drop (a + k) room) (length_build i g) ∙ drop-cons room (a + i) (g i) h in
      let e2 : length (take a room ++ xs) ≡ a + i = omega (arith, length-append (take a room) xs, length-take-le a room (omega arith), length_build i g) in
      let e3 : suc (a + i) ≡ a + length (build (suc i) g) = omega (arith, length_build (suc i) g) in
      ap (λ (l : List A). set (take a room ++ (xs ++ l)) (a + i) (g i)) e1
      ∙ ap (λ (l : List A). set l (a + i) (g i)) (sym (append_assoc (take a room) xs (y ∷ r)))
      ∙ set_at (take a room ++ xs) y r (g i) (a + i) e2
      ∙ append_assoc (take a room) xs (g i ∷ r)
      ∙ ap (λ (l : List A). take a room ++ l) (sym (append_assoc xs (g i ∷ []) r) ∙ ap (λ (l : List A). l ++ r) (sym (build_snoc i g)))
      ∙ ap (λ (k : ℕ). take a room ++ (build (suc i) g ++ drop k room)) e3

  pub put_turn : (a : ℕ) (g : ℕ → A) (i : ℕ) (room : List A) {s : List A} {v : A} → a + i < length room → s ≡ put a (build i g) room → v ≡ g i → set s (a + i) v ≡ put a (build (i + 1) g) room
  put_turn a g i room h e p = rw (e, p, add-one i) (put_suc a g i room h)

  pub put_end : (a : ℕ) (g : ℕ → A) (i n : ℕ) (room : List A) {s : List A} → i ≤ n → n ≤ i → s ≡ put a (build i g) room → s ≡ put a (build n g) room
  put_end a g i n room = at_end (λ k. put a (build k g) room) i n

  -- ---- over: the same from place 0 on

  pub put_front : (xs room : List A) → put 0 xs room ≡ over xs room
  unfolding put over
  put_front xs room = rw (zero-add (length xs))

  pub over_none : (room : List A) → room ≡ over [] room
  unfolding over
  over_none room = refl

  pub length_over : (xs room : List A) → length xs ≤ length room → length (over xs room) ≡ length room
  length_over xs room h = ap length (sym (put_front xs room)) ∙ length_put 0 xs room (omega arith)

  pub over_at : (d : A) (xs room : List A) (k : ℕ) → k < length xs → get_or (over xs room) k d ≡ get_or xs k d
  unfolding over
  over_at d xs room k h = get_or-append xs _ d k h

  over_past : (d : A) (xs room : List A) (k : ℕ) → length xs ≤ k → get_or (over xs room) k d ≡ get_or room k d
  over_past d xs room k h = ap (λ (s : List A). get_or s k d) (sym (put_front xs room)) ∙ put_past d 0 xs room (omega arith) k (omega arith)

  pub take_over : (xs room : List A) (n : ℕ) → length xs ≡ n → take n (over xs room) ≡ xs
  unfolding over
  take_over xs room n e = take_at xs _ n e

  pub over_whole : (xs room : List A) → length xs ≡ length room → over xs room ≡ xs
  unfolding over
  over_whole xs room e = rw (e, drop-length room) (append-nil xs)

  -- laid over again, at least as far
  pub over_again : (xs ys room : List A) → length xs ≤ length ys → over ys (over xs room) ≡ over ys room
  unfolding over
  over_again xs ys room h =
      let m : ℕ = length ys - length xs in
      let e : length ys ≡ length xs + m = omega arith in
      ap (λ (s : List A). ys ++ s)
      (ap (λ (k : ℕ). drop k (xs ++ drop (length xs) room)) e ∙ sym (drop-drop m (length xs) _) ∙ ap (drop m) (drop_at xs (drop (length xs) room) (length xs) refl) ∙ drop-drop m (length xs) room ∙ ap (λ (k : ℕ). drop k room) (sym e))

  -- a room's own front
  pub over_take : (n : ℕ) (room : List A) {xs : List A} → n ≤ length room → xs ≡ take n room → room ≡ over xs room
  unfolding over
  over_take n room h e =
      sym (ap (λ (s : List A). s ++ drop (length s) room) e ∙ ap (λ (k : ℕ). take n room ++ drop k room) (length-take-le n room h) ∙ take-append-drop n room)

  pub over_self : (d : A) (n : ℕ) (room : List A) → n ≤ length room → over (build n (λ k. get_or room k d)) room ≡ room
  over_self d n room h = sym (over_take n room h (build_take d n room h))

  -- `&mut room[..n]`, lent and come back
  pub lent_over : (n : ℕ) (room xs : List A) → length xs ≡ n → {ys : List A} → xs ≡ ys → xs ++ drop n room ≡ over ys room
  unfolding over
  lent_over n room xs e h = ap (λ (k : ℕ). xs ++ drop k room) (sym e) ∙ ap (λ (l : List A). over l room) h

  pub lent_length : (n : ℕ) (room xs : List A) → length xs ≡ n → n ≤ length room → length (xs ++ drop n room) ≡ length room
  lent_length n room xs e l = simp (length-append, length-drop) (omega arith)

  -- a list laid over the front grows by what is put at its end
  pub over_put : (xs ys room : List A) (a : ℕ) → length xs ≡ a → put a ys (over xs room) ≡ over (xs ++ ys) room
  unfolding over put
  over_put xs ys room a e =
      let r : List A = drop (length xs) room in
      ap (λ (l : List A). l ++ (ys ++ drop (a + length ys) (xs ++ r))) (take_at xs r a e)
      ∙ ap (λ (l : List A). xs ++ (ys ++ l))
      (sym (drop-drop (length ys) a (xs ++ r)) ∙ ap (drop (length ys)) (drop_at xs r a e) ∙ drop-drop (length ys) (length xs) room ∙ ap (λ (k : ℕ). drop k room) (sym (length-append xs ys)))
      ∙ sym (append_assoc xs ys _)

  -- h's values stand at the front, and g's are put in their midst
  pub put-over : (a n m : ℕ) (g h h' : ℕ → A) (room : List A) → a + n ≤ m
      → ((k : ℕ) → k < a → h k ≡ h' k) → ((k : ℕ) → k < n → g k ≡ h' (a + k)) → ((k : ℕ) → a + n ≤ k → k < m → h k ≡ h' k)
      → put a (build n g) (over (build m h) room) ≡ over (build m h') room
  unfolding over
  put-over a n m g h h' room l low mid high =
      simp (length_build m h, length_build m h')
      (ap (put a (build n g)) (parts h)
      ∙ put_mid (build a h) (build n g) (build n (λ k. h (a + k))) _ a (length_build a h) (length_build n g ∙ sym (length_build n _))
      ∙ ap (λ (s : List A). s ++ (build n g ++ rest h)) (build_ext a h h' low)
      ∙ ap (λ (s : List A). build a h' ++ (s ++ rest h)) (build_ext n g _ mid)
      ∙ ap (λ (s : List A). build a h' ++ (build n (λ k. h' (a + k)) ++ (s ++ drop m room))) (build_ext (m - (a + n)) _ _ (λ k q. high (a + (n + k)) (omega arith) (omega arith)))
      ∙ sym (parts h'))
    where
      rest : (ℕ → A) → List A
      rest f = build (m - (a + n)) (λ k. f (a + (n + k))) ++ drop m room

      parts : (f : ℕ → A) → build m f ++ drop m room ≡ build a f ++ (build n (λ k. f (a + k)) ++ rest f)
      parts f =
          let e : m ≡ a + (n + (m - (a + n))) = omega arith in
          ap (λ (s : List A). s ++ drop m room) (ap (λ (k : ℕ). build k f) e ∙ build_add a _ f ∙ ap (λ (s : List A). build a f ++ s) (build_add n _ (λ k. f (a + k))))
          ∙ append_assoc (build a f) _ _ ∙ ap (λ (s : List A). build a f ++ s) (append_assoc (build n (λ k. f (a + k))) _ _)

  -- n values from a on, in a room whose front below a is h's
  pub put_fit : (d : A) (a n m : ℕ) (g h : ℕ → A) (room : List A) → m ≡ a + n → m ≤ length room
      → ((k : ℕ) → k < a → get_or room k d ≡ h k) → ((k : ℕ) → k < n → g k ≡ h (a + k)) → put a (build n g) room ≡ over (build m h) room
  put_fit d a n m g h room e l low mid =
      ap (put a (build n g)) (sym (over_self d m room l)) ∙ put-over a n m g (λ k. get_or room k d) h room (omega arith) low mid (λ k p q. absurd (omega arith))

  -- ---- fill: over, with f 0, f 1, .., f (n - 1)

  pub fill_over : (f : ℕ → A) (n : ℕ) (x : List A) → fill n f x ≡ over (build n f) x
  unfolding fill over
  fill_over f n x = rw (length_build n f)

  pub fill_none : (f : ℕ → A) (x : List A) → x ≡ fill 0 f x
  unfolding fill build
  fill_none f x = refl

  fill_suc : (f : ℕ → A) (i : ℕ) (x : List A) → i < length x → set (fill i f x) i (f i) ≡ fill (suc i) f x
  fill_suc f i x l =
      rw (fill_over f i x, fill_over f (suc i) x, ← put_front (build i f) x, ← put_front (build (suc i) f) x)
      (ap (λ (k : ℕ). set (put 0 (build i f) x) k (f i)) (sym (zero-add i)) ∙ put_suc 0 f i x (omega arith))

  pub fill_turn : (f : ℕ → A) (i : ℕ) (x : List A) {s : List A} {v : A} → i < length x → s ≡ fill i f x → v ≡ f i → set s i v ≡ fill (i + 1) f x
  fill_turn f i x l e h = rw (e, h, add-one i) (fill_suc f i x l)

  pub fill_end : (f : ℕ → A) (i n : ℕ) (x : List A) {s : List A} → i ≤ n → n ≤ i → s ≡ fill i f x → s ≡ fill n f x
  fill_end f i n x = at_end (λ k. fill k f x) i n

  pub length_fill : (f : ℕ → A) (n : ℕ) (x : List A) → n ≤ length x → length (fill n f x) ≡ length x
  length_fill f n x h = ap length (fill_over f n x) ∙ length_over (build n f) x (omega (arith, length_build n f))

  pub fill_at : (d : A) (f : ℕ → A) (n : ℕ) (x : List A) (k : ℕ) → k < n → get_or (fill n f x) k d ≡ f k
  fill_at d f n x k h = ap (λ (s : List A). get_or s k d) (fill_over f n x) ∙ over_at d (build n f) x k (omega (arith, length_build n f)) ∙ at_build d n f k h

  pub fill_past : (d : A) (f : ℕ → A) (n : ℕ) (x : List A) (k : ℕ) → n ≤ k → get_or (fill n f x) k d ≡ get_or x k d
  fill_past d f n x k h = ap (λ (s : List A). get_or s k d) (fill_over f n x) ∙ over_past d (build n f) x k (omega (arith, length_build n f))

  -- in a turn, the place that is written next has its old value
  pub fill_ahead : (d : A) (f : ℕ → A) (i : ℕ) (x : List A) {s : List A} → s ≡ fill i f x → get_or s i d ≡ get_or x i d
  fill_ahead d f i x e = ap (λ (s : List A). get_or s i d) e ∙ fill_past d f i x i (omega arith)

  pub fill_ext : (n : ℕ) (f g : ℕ → A) (x : List A) → ((k : ℕ) → k < n → f k ≡ g k) → fill n f x ≡ fill n g x
  unfolding fill
  fill_ext n f g x h = ap (λ (s : List A). s ++ drop n x) (build_ext n f g h)

  -- a room of just n places: what it held is gone
  pub fill_whole : (f : ℕ → A) (n : ℕ) (x : List A) → length x ≡ n → fill n f x ≡ build n f
  fill_whole f n x e = fill_over f n x ∙ over_whole (build n f) x (length_build n f ∙ sym e)

  -- the same, where f has the elements of a list
  pub fill_list : (d : A) (l x : List A) → length x ≡ length l → fill (length l) (λ k. get_or l k d) x ≡ l
  fill_list d l x e = fill_whole _ (length l) x e ∙ build_list d l

  -- the same, with one value everywhere
  pub fill_same : (v : A) (n : ℕ) (x : List A) → length x ≡ n → fill n (λ k. v) x ≡ replicate n v
  fill_same v n x e = fill_whole _ n x e ∙ build_same n v

  -- a room of n + 1 places, and its last place
  pub fill_last : (f : ℕ → A) (n : ℕ) (x : List A) {s : List A} (v : A) → length x ≡ n + 1 → s ≡ fill n f x → set s n v ≡ build n f ++ (v ∷ [])
  unfolding fill
  fill_last f n x v l e =
      let h : n < length x = omega arith in
      let g : suc n ≡ length x = omega arith in
      rw (e, drop-cons x n v h, g, drop-length x) (set_at (build n f) (get_or x n v) [] v n (length_build n f))

  -- filled again, at least as far
  pub fill_again : (m n : ℕ) (f g : ℕ → A) (x : List A) → m ≤ n → fill n g (fill m f x) ≡ fill n g x
  fill_again m n f g x h =
      ap (fill n g) (fill_over f m x) ∙ fill_over g n _ ∙ over_again (build m f) (build n g) x (omega (arith, length_build m f, length_build n g)) ∙ sym (fill_over g n x)

  -- ---- a loop that makes each place anew from its own old value

  module _ (d : A) (g : ℕ → A → A) where
    pub iter_fill : (n : ℕ) (x : List A) → n ≤ length x → iter n (λ i s. set s i (g i (get_or s i d))) x ≡ fill n (λ k. g k (get_or x k d)) x
    unfolding iter
    iter_fill zero x h = fill_none _ x
    iter_fill (suc n) x h =
        let f : ℕ → A = λ k. g k (get_or x k d) in
        ap (λ (s : List A). set s n (g n (get_or s n d))) (iter_fill n x (omega arith))
        ∙ ap (λ (v : A). set (fill n f x) n (g n v)) (fill_past d f n x n (omega arith))
        ∙ fill_suc f n x h

    -- at the loop's end, and where it made the whole room
    pub updated : (i n : ℕ) (x : List A) {s : List A} → i ≤ n → n ≤ i → n ≡ length x → s ≡ iter i (λ k s. set s k (g k (get_or s k d))) x
        → s ≡ fill (length x) (λ k. g k (get_or x k d)) x
    updated i n x p q l e = at_end (λ n. iter n (λ k s. set s k (g k (get_or s k d))) x) i n p q e ∙ iter_fill n x (omega arith) ∙ ap (λ (n : ℕ). fill n (λ k. g k (get_or x k d)) x) l

    pub updated_whole : (i n : ℕ) (x : List A) {s : List A} → i ≤ n → n ≤ i → length x ≡ n → s ≡ iter i (λ k s. set s k (g k (get_or s k d))) x
        → s ≡ build n (λ k. g k (get_or x k d))
    updated_whole i n x p q l e = updated i n x p q (sym l) e ∙ ap (λ (n : ℕ). fill n (λ k. g k (get_or x k d)) x) l ∙ fill_whole _ n x l

-- what the needs of a loop that fills are searched with
pub ruleset fills = (rules, fill_none, fill_turn, fill_end)

pub ruleset puts = (rules, put_none, put_turn, put_end)

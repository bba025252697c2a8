-- The turns of the conjugate gradient, from what its stages leave.
use Rattle.std.specs.Prelude.{if◌then◌else◌}
use mathlib.Core.Path.{◌≡◌, refl, sym, ap, ◌∙◌}
use mathlib.Core.Bool.{Bool, true, false, not}
use mathlib.Core.List.{List}
use Prim.Native.Nat.{ℕ, ◌+◌, ◌≤◌, ◌<◌, min}
use native.Mathlib.Nat.{le-min, min-le_left, min-le_right}
use native.Mathlib.Omega.{arith}
use lib.Dec.{eqb, ltb}
use lib.ListN.{length, take}
use lib.Seq.{length-take-le, get_or-take}
use lib.Ieee.{Float, nan, neg}
use borrow.Author.Tests.{eqb-true, eqb-false, lt-ltb, le-ltb}
use Rattle.loops.specs.Loop.{Out, on, off, leave, final}
use Rattle.loops.specs.Lists.{build}
use Rattle.loops.proofs.Loop.{iter_ext}
use Rattle.loops.proofs.Leave.{leave_none, leave_step, leave_end, leave_left}
use Rattle.loops.proofs.Choose.{by-test, choose_true, choose_false}
use Rattle.floats.specs.Operators.{◌+₆₄◌, ◌-₆₄◌, ◌*₆₄◌, ◌/₆₄◌, at}
use Rattle.definition.specs.Solve.{dot, sp_mat_vec, factor, solved_or, Cgd, begun, residual, residual_last, residual_worse, turn, linear_cgd}
use Rattle.algebra.specs.declared.linear.CgdState.{CgdState}
use Rattle.algebra.specs.Inner.Linear.{started, stepped, recomputed, is_far, is_last, is_worse, cgd_of, turn_end}

-- ---- whether a turn is left, of at most n and at most m

module _ (k n m : ℕ) where
  pub turn_left : k ≤ min n m → k < n → not (eqb k m) ≡ ltb k (min n m)
  turn_left h l =
      by-test (eqb k m) (λ e. let p : min n m ≤ k = omega (arith, eqb-true k m e, min-le_right n m) in rw e (sym (le-ltb k (min n m) p)))
      (λ e. let p : k < m = omega (arith, eqb-false k m e, min-le_right n m) in rw e (sym (lt-ltb k (min n m) (le-min l p))))

  pub none_left : n ≤ k → ltb k n ≡ ltb k (min n m)
  none_left h = let p : min n m ≤ k = omega (arith, min-le_left n m) in le-ltb k n h ∙ sym (le-ltb k (min n m) p)

-- ---- inner products of vectors of n numbers, and of the first n of one

module _ (n : ℕ) where
  pub dot_whole : (x y : List Float) {v : Float} → length x ≡ n → length y ≡ n → v ≡ dot (min (length x) (length y)) x y → v ≡ dot n x y
  dot_whole x y h g e = let m : min (length x) (length y) ≡ n = omega arith in e ∙ ap (λ (m : ℕ). dot m x y) m

  pub dot_front : (x : List Float) {v : Float} → n ≤ length x → v ≡ dot (min (length (take n x)) (length (take n x))) (take n x) (take n x) → v ≡ dot n x x
  unfolding dot
  dot_front x h e =
      let l : length (take n x) ≡ n = length-take-le n x h in
      dot_whole (take n x) (take n x) l l e
      ∙ iter_ext n _ _ _ (λ k p v. ap (λ (t : Float). v +₆₄ t *₆₄ t) (get_or-take n x k nan p))

module _ (a : List Float) (n : ℕ) (b x : List Float) where
  -- ---- before the first turn

  pub begin_is : {q p r : List Float} {v : Float} {s : CgdState} → q ≡ sp_mat_vec a n x → p ≡ build n (λ i. at b i -₆₄ at q i) → r ≡ build n (λ i. neg (at p i)) → v ≡ dot n r r → s ≡ started v
      → cgd_of x r p s ≡ begun a n b x
  unfolding begun
  begin_is e1 e2 e3 e4 e5 = rw (e5, e4, e3, e2, e1)

  -- ---- the residual, recomputed or as it is

  module _ (r : List Float) (s : CgdState) {t : Bool} (e : t ≡ is_far s) where
    pub renew_far : {q r' : List Float} → t ≡ true → q ≡ sp_mat_vec a n x → r' ≡ build n (λ i. at q i -₆₄ at b i) → r' ≡ (if is_far s then residual a n b x else r)
    renew_far h e1 e2 = choose_true r (sym e ∙ h) (e2 ∙ ap (λ (q : List Float). build n (λ i. at q i -₆₄ at b i)) e1)

-- ---- a turn

module _ (a : List Float) (n : ℕ) (b x r p : List Float) (s : CgdState) where
  -- from the step along p on: the same as the definition has it, by whether the residual is recomputed
  abbrev turn_far : Bool → List Float → List Float → List Float → Out Cgd
  turn_far far x moved anew =
      let r = if far then anew else moved in
      let r_next = if far then dot n r r else dot n moved moved in
      let r_recompute = if far then r_next else s.r_recompute in
      let q = build n (λ i. r_next /₆₄ s.r_cur *₆₄ at p i -₆₄ at r i) in
      if residual_last r_next then off (record { x = x; r = r; p = p; r_cur = r_next; r_recompute = r_recompute })
      else on (record { x = x; r = r; p = q; r_cur = r_next; r_recompute = r_recompute })

  abbrev turn_moved : List Float → List Float → Out Cgd
  turn_moved x moved = turn_far (is_far (stepped s (dot n moved moved))) x moved (residual a n b x)

  abbrev turn_along : Float → List Float → Out Cgd
  turn_along alpha q = turn_moved (build n (λ i. at x i +₆₄ alpha *₆₄ at p i)) (build n (λ i. at r i +₆₄ alpha *₆₄ at q i))

  end_is : (far : Bool) (x moved anew : List Float)
      → (let R = if far then anew else moved in turn_end n p s x R (if far then recomputed (stepped s (dot n moved moved)) (dot n R R) else stepped s (dot n moved moved))) ≡ turn_far far x moved anew
  end_is true x moved anew = refl
  end_is false x moved anew = refl

  along_is : turn_along (neg (dot n p r) /₆₄ dot n p (sp_mat_vec a n p)) (sp_mat_vec a n p) ≡ turn a n b (cgd_of x r p s)
  unfolding turn
  along_is = refl

  module _ {q x' r₁ R : List Float} {d₁ d₂ v : Float} {s₁ T : CgdState}
      (e1 : q ≡ sp_mat_vec a n p) (e2 : d₁ ≡ dot n p r) (e3 : d₂ ≡ dot n p q)
      (e4 : x' ≡ build n (λ i. at x i +₆₄ neg d₁ /₆₄ d₂ *₆₄ at p i)) (e5 : r₁ ≡ build n (λ i. at r i +₆₄ neg d₁ /₆₄ d₂ *₆₄ at q i))
      (e6 : v ≡ dot n r₁ r₁) (e7 : s₁ ≡ stepped s v)
      (e8 : R ≡ (if is_far s₁ then residual a n b x' else r₁)) (e9 : T ≡ (if is_far s₁ then recomputed s₁ (dot n R R) else s₁)) where
    pub turn_is : turn_end n p s x' R T ≡ turn a n b (cgd_of x r p s)
    turn_is =
        ap (turn_end n p s x' R) e9
        ∙ ap (λ (R : List Float). turn_end n p s x' R (if is_far s₁ then recomputed s₁ (dot n R R) else s₁)) e8
        ∙ ap (λ (s₁ : CgdState). let R = if is_far s₁ then residual a n b x' else r₁ in turn_end n p s x' R (if is_far s₁ then recomputed s₁ (dot n R R) else s₁)) (e7 ∙ ap (stepped s) e6)
        ∙ end_is (is_far (stepped s (dot n r₁ r₁))) x' r₁ (residual a n b x')
        ∙ ap (λ (x : List Float). turn_moved x r₁) e4
        ∙ ap (turn_moved (build n (λ i. at x i +₆₄ neg d₁ /₆₄ d₂ *₆₄ at p i))) e5
        ∙ ap (λ (d : Float). turn_along (neg d /₆₄ d₂) q) e2
        ∙ ap (λ (d : Float). turn_along (neg (dot n p r) /₆₄ d) q) e3
        ∙ ap (λ (q : List Float). turn_along (neg (dot n p r) /₆₄ dot n p q) q) e1
        ∙ along_is

-- ---- the turns, m at most

module _ (a : List Float) (n : ℕ) (b : List Float) where
  abbrev pub turns_from : ℕ → Cgd → Out Cgd
  turns_from k c = leave k (λ k. turn a n b) c

  pub no_turn : {c : Cgd} {k : ℕ} → k ≡ 0 → on c ≡ turns_from k c
  no_turn {c} e = leave_none _ c ∙ ap (λ (k : ℕ). turns_from k c) (sym e)

  module _ (c : Cgd) {x r p : List Float} (t : CgdState) (e : on (cgd_of x r p t) ≡ turns_from t.k c) where
    pub turns_end : (m : ℕ) → t.k ≤ m → m ≤ t.k → cgd_of x r p t ≡ final (turns_from m c)
    turns_end m l g = ap final (leave_end _ c t.k m l g e)

    module _ {x' r' : List Float} (t' : CgdState) (h : turn_end n p t x' r' t' ≡ turn a n b (cgd_of x r p t)) {l : Bool} (f : l ≡ is_last t') where
      pub next_turn : {p' : List Float} → t'.k ≡ t.k + 1 → l ≡ false → p' ≡ build n (λ i. t'.r_cur /₆₄ t.r_cur *₆₄ at p i -₆₄ at r' i) → on (cgd_of x' r' p' t') ≡ turns_from t'.k c
      next_turn g q d =
          leave_step _ c t.k e (choose_false _ (sym f ∙ q) (ap (λ (p : List Float). on (cgd_of x' r' p t')) d) ∙ h) ∙ ap (λ (k : ℕ). turns_from k c) (sym g)

      pub last_turn : (m : ℕ) → t.k < m → l ≡ true → cgd_of x' r' p t' ≡ final (turns_from m c)
      last_turn m g q = ap final (leave_left _ c t.k m g e (choose_true _ (sym f ∙ q) refl ∙ h))

-- ---- the end

module _ (a : List Float) (n : ℕ) (b x : List Float) (max_iters : ℕ) (first last : CgdState) {x' r p r' p' : List Float} {w : Bool} {d : Float}
    (e1 : cgd_of x r p first ≡ begun a n b x) (e2 : cgd_of x' r' p' last ≡ final (leave (min (n + 5) max_iters) (λ k. turn a n b) (cgd_of x r p first)))
    (e3 : d ≡ dot n b b) (e4 : w ≡ is_worse last first.r_cur d) where
  abbrev judged : Float → Cgd → List Float
  judged v c = if residual_last v then x else (if residual_worse c.r_cur v (dot n b b) then solved_or x n b (factor a n) else c.x)

  judged_is : judged first.r_cur (cgd_of x' r' p' last) ≡ linear_cgd a n b x max_iters
  unfolding linear_cgd
  judged_is = ap (judged first.r_cur) e2 ∙ ap (λ (c : Cgd). judged c.r_cur (final (leave (min (n + 5) max_iters) (λ k. turn a n b) c))) e1

  worse : {t : Bool} → w ≡ t → is_worse last first.r_cur (dot n b b) ≡ t
  worse h = ap (is_worse last first.r_cur) (sym e3) ∙ sym e4 ∙ h

  pub stays : is_last first ≡ false → w ≡ false → x' ≡ linear_cgd a n b x max_iters
  stays g h = choose_false _ g (choose_false _ (worse h) refl) ∙ judged_is

  pub gives_up : {y : List Float} → is_last first ≡ false → w ≡ true → y ≡ solved_or x n b (factor a n) → y ≡ linear_cgd a n b x max_iters
  gives_up g h e = choose_false _ g (choose_true _ (worse h) e) ∙ judged_is

-- a start on the solution is kept
pub kept-start : (a : List Float) (n : ℕ) (b x : List Float) (max_iters : ℕ) {r p : List Float} (first : CgdState) → cgd_of x r p first ≡ begun a n b x → is_last first ≡ true
    → x ≡ linear_cgd a n b x max_iters
unfolding linear_cgd
kept-start a n b x max_iters first e h = choose_true _ (ap (λ (c : Cgd). residual_last c.r_cur) (sym e) ∙ h) refl

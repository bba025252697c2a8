-- The lists that `fill` writes, decoded, are the drawn calls: kind, frame and weight stand at a call's place, and a push's numbers behind those of the pushes
-- before it, of which the kinds tell how many there are.
use mathlib.Core.Path.{◌≡◌, refl, sym, ap, ap₂, ◌∙◌}
use mathlib.Core.List.{List, [], ◌∷◌, ◌++◌, append_assoc}
use Prim.Native.Nat.{ℕ, zero, suc, ◌+◌, ◌-◌, ◌*◌, ◌≤◌, ◌<◌}
use native.Mathlib.Nat.{mod-lt}
use native.Mathlib.Numerals.{add-one}
use native.Mathlib.Omega.{arith}
use lib.ListN.{length, get_or, take, drop, length-append}
use lib.Seq.{take_at, drop_at}
use lib.Dec.{eqb}
use borrow.Author.Tests.{ne_eqb}
use lib.Ieee.{Float}
use Rattle.std.proofs.lemmas.List.{take-append-le}
use Rattle.floats.specs.Operators.{zero₃₂}
use Rattle.loops.specs.Loop.{iter}
use Rattle.loops.specs.Lists.{build, flat, those, over}
use Rattle.loops.proofs.Build.{length_build, at_build, build_snoc, build_ext, take_build}
use Rattle.loops.proofs.Fill.{over_at}
use Rattle.loops.proofs.Flat.{flat_more, flat_add}
use Rattle.loops.proofs.Parts.{drop_next}
use Rattle.loops.proofs.Tests.{those_append}
use Rattle.definition.specs.declared.RingLengths.{RingLengths}
use Rattle.definition.specs.Model.{Model}
use Rattle.definition.specs.Machine.{Call, answers, push, change}
use Rattle.lists.specs.Listed.{part, of_kind}
use Rattle.lists.specs.Draws.{draw, call_of, Drawing, kind_in, call_in, drawing_at, kind_at, numbers_at, frame_at, weight_at, drawn_calls, DrawnLists, filled}
use Rattle.lists.proofs.Places.{one, pushes_next, before_is}
use Rattle.lists.proofs.Steps.{wide-0}
use Rattle.lists.specs.Totals.{how_many, totals}
use Rattle.lists.specs.Theorems.{listed_at, listed_calls, ListsDecode}

-- ---- a call by its kind

of_kind-call : (k f : ℕ) (x y : List Float) (fs : List ℕ) (ws : List Float) (w : Float) → k < 5 → (k ≡ 0 → x ≡ y) → fs ≡ f ∷ [] → ws ≡ w ∷ []
    → of_kind k f x fs ws 1 ≡ call_of k y f w
unfolding of_kind call_of
of_kind-call zero f x y fs ws w h p q r = ap push (p refl)
of_kind-call (suc zero) f x y fs ws w h p q r = refl
of_kind-call (suc (suc zero)) f x y fs ws w h p q r = ap₂ change q r
of_kind-call (suc (suc (suc zero))) f x y fs ws w h p q r = refl
of_kind-call (suc (suc (suc (suc zero)))) f x y fs ws w h p q r = refl
of_kind-call (suc (suc (suc (suc (suc k))))) f x y fs ws w h p q r = absurd (omega arith)

-- ---- parts of the lists

-- what stands at place i of a list that is written at a room's front
at_place : {A : Type 0} (d : A) (n : ℕ) (f : ℕ → A) (room : List A) (i : ℕ) → i < n → get_or (over (build n f) room) i d ≡ f i
at_place d n f room i h = over_at d (build n f) room i (omega (arith, length_build n f)) ∙ at_build d n f i h

one-part : {A : Type 0} (d : A) (n : ℕ) (f : ℕ → A) (room : List A) (i : ℕ) → i < n → part i (i + 1) (over (build n f) room) ≡ f i ∷ []
unfolding part over
one-part d n f room i h =
    let l : List _ = over (build n f) room in
    let one : i + 1 - i ≡ 1 = omega arith in
    rw (one, drop_next d (over (build n f) room) i (omega (arith, length-append (build n f) (drop (length (build n f)) room), length_build n f)), at_place d n f room i h) refl

-- lists of parts, one after the other: part i
row_part : (n i a w : ℕ) (f : ℕ → List Float) (room : List Float) → i < n → length (flat i f) ≡ a → length (f i) ≡ w → part a (a + w) (over (flat n f) room) ≡ f i
unfolding part over
row_part n i a w f room h l k =
    let m : ℕ = n - (i + 1) in
    let e : n ≡ i + 1 + m = omega arith in
    let cut : flat n f ≡ flat i f ++ (f i ++ flat m (λ j. f (i + 1 + j))) =
    ap (λ (j : ℕ). flat j f) e ∙ flat_add (i + 1) m f ∙ ap (λ (s : List Float). s ++ flat m (λ j. f (i + 1 + j))) (flat_more i f) ∙ append_assoc (flat i f) (f i) _ in
    let rest : List Float = drop (length (flat n f)) room in
    let all : flat n f ++ rest ≡ flat i f ++ (f i ++ (flat m (λ j. f (i + 1 + j)) ++ rest)) =
    ap (λ (s : List Float). s ++ rest) cut ∙ append_assoc (flat i f) _ rest ∙ ap (λ (s : List Float). flat i f ++ s) (append_assoc (f i) _ rest) in
    let d : a + w - a ≡ w = omega arith in
    rw d (ap (λ (s : List Float). take w (drop a s)) all ∙ ap (take w) (drop_at (flat i f) _ a l) ∙ take_at (f i) _ w k)

-- ---- the pushes before a call, by the kinds

more : (k : ℕ) (l : List ℕ) → how_many 0 (l ++ (k ∷ [])) ≡ how_many 0 l + one k
unfolding how_many those
more k l = ap length (those_append (eqb 0) l (k ∷ [])) ∙ length-append (those (eqb 0) l) (those (eqb 0) (k ∷ [])) ∙ ap (λ (n : ℕ). length (those (eqb 0) l) + n) (last k)
  where
    last : (k : ℕ) → length (those (eqb 0) (k ∷ [])) ≡ one k
    last zero = refl
    last (suc k) =
        let n : suc k ≡ 0 → ⊥ = λ e. omega arith in
        let m : 0 ≡ suc k → ⊥ = λ e. omega arith in
        rw (ne_eqb (suc k) 0 n, ne_eqb 0 (suc k) m)

module _ (dim seed : ℕ) where
  counted_are : (i : ℕ) → how_many 0 (build i (kind_at dim seed)) ≡ (drawing_at dim seed i).pushes
  unfolding build how_many those drawing_at iter
  counted_are zero = refl
  counted_are (suc i) =
      ap (how_many 0) (build_snoc i (kind_at dim seed)) ∙ more (kind_at dim seed i) (build i (kind_at dim seed)) ∙ ap (λ (n : ℕ). n + one (kind_at dim seed i)) (counted_are i)
      ∙ sym (pushes_next dim seed i) ∙ ap (λ (n : ℕ). (drawing_at dim seed n).pushes) (add-one i)

  -- ---- a call

  module _ (count : ℕ) (l : DrawnLists) (i : ℕ) (h : i < count) where
    abbrev d : Drawing
    d = drawing_at dim seed i

    pushes_are : how_many 0 (take i (over (build count (kind_at dim seed)) l.kinds)) ≡ d.pushes
    unfolding over
    pushes_are =
        let kinds : List ℕ = build count (kind_at dim seed) in
        let b : i ≤ length kinds = omega (arith, length_build count (kind_at dim seed)) in
        let c : i ≤ count = omega arith in
        ap (how_many 0) (take-append-le i kinds (drop (length kinds) l.kinds) b ∙ take_build i count (kind_at dim seed) c) ∙ counted_are i

    listed : listed_at dim (filled dim seed count l) i ≡ call_in dim d
    unfolding listed_at filled
    listed =
        rw (
          at_place 0 count (kind_at dim seed) l.kinds i h,
          at_place 0 count (frame_at dim seed) l.named i h,
          one-part 0 count (frame_at dim seed) l.named i h,
          one-part zero₃₂ count (weight_at dim seed) l.weights i h,
          pushes_are,
        ) (of_kind-call (kind_in d) (frame_at dim seed i) _ (numbers_at dim seed i) _ _ (weight_at dim seed i) (mod-lt (draw d.state) {m = 5} (omega arith))
        (λ e. row_part count i (d.pushes * dim) dim (numbers_at dim seed) l.frames h (before_is dim seed i) (wide-0 dim (kind_in d) (draw d.state) e)) refl refl)

  pub decoded_calls : (count : ℕ) (l : DrawnLists) → listed_calls dim count (filled dim seed count l) ≡ drawn_calls dim seed count
  unfolding listed_calls drawn_calls
  decoded_calls count l = build_ext count (listed_at dim (filled dim seed count l)) (λ i. call_in dim (drawing_at dim seed i)) (listed count l)

pub decodes : ListsDecode
decodes seed dim count l =
    let c = decoded_calls dim seed count l in
    record { calls_are = c; totals_are = λ (M : Model) (z : RingLengths). ap (λ (cs : List Call). totals cs (answers M z cs)) c }

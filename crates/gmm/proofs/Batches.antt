-- A frame's posteriors go into the batch one by one.
use Rattle.std.proofs.Common.{◌≡◌, ℕ, ◌+◌, ◌<◌, ◌≤◌, List, [], ◌∷◌, ◌++◌, map, length, get_or, sym, refl, ap, ◌∙◌, subst, append_assoc, append-nil, not-suc-le-zero, add-one, arith}
use mathlib.Core.List.{map-append, map-map}
use lib.Ieee.{Float}
use Rattle.loops.specs.Lists.{build}
use Rattle.loops.proofs.Loop.{at_end}
use Rattle.loops.proofs.Build.{build_snoc}
use Rattle.floats.specs.Operators.{◌*₃₂◌, at}
use Rattle.definition.specs.declared.FrameWeight.{FrameWeight}
use Rattle.definition.specs.declared.FrameWeight.TheVariants.{Skipped, Weighed}
use Rattle.definition.specs.Posteriors.{Post, select_posteriors, nan_count, posteriors, nans_of}
use Rattle.definition.specs.Statistics.{Entry, seen}
use Rattle.gmm.specs.Inner.Leading.{posts_in}
use Rattle.gmm.proofs.Rooms.{held_none, held_build}
use Rattle.gmm.specs.Batch.{entry_of, scaled_entry, Sums}

-- ---- for callers

-- a batch begins, whatever the rooms hold
pub sums_none : (d : ℕ) (gs : List ℕ) (tot sum : List Float) → Sums d [] 0 gs tot sum
unfolding seen
sums_none d gs tot sum = record { in_order = refl; weight_is = λ k l. absurd (not-suc-le-zero l); features_are = λ a p k l. absurd (not-suc-le-zero l) }

-- the same entries, said otherwise
pub sums_on : {d m : ℕ} {es es' : List Entry} {gs : List ℕ} {tot sum : List Float} → es ≡ es' → Sums d es m gs tot sum → Sums d es' m gs tot sum
sums_on {d} {m} {gs = gs} {tot} {sum} e h = subst (λ (es : List Entry). Sums d es m gs tot sum) e h

-- ---- the entries es, then those of the first i posteriors

module _ (chosen : List ℕ) (posts : List Float) where
  held_next : (i : ℕ) → i < length chosen → i < length posts → posts_in (i + 1) chosen posts ≡ posts_in i chosen posts ++ ((get_or chosen i 0, at posts i) ∷ [])
  held_next i p q =
      let f : ℕ → Post = λ k. (get_or chosen k 0, at posts k) in
      held_build (i + 1) chosen posts (omega arith) (omega arith) ∙ ap (λ (n : ℕ). build n f) (add-one i) ∙ build_snoc i f
      ∙ ap (λ (l : List Post). l ++ (f i ∷ [])) (sym (held_build i chosen posts (omega arith) (omega arith)))

  module _ (es : List Entry) (f : Post → Entry) where
    abbrev pub batch : ℕ → List Entry
    batch i = es ++ map f (posts_in i chosen posts)

    pub batch_none : es ≡ batch 0
    batch_none = sym (ap (λ (l : List Post). es ++ map f l) (held_none chosen posts) ∙ append-nil es)

    pub batch_next : (i : ℕ) → i < length chosen → i < length posts → batch i ++ (f (get_or chosen i 0, at posts i) ∷ []) ≡ batch (i + 1)
    batch_next i p q =
        append_assoc es (map f (posts_in i chosen posts)) _
        ∙ ap (λ (l : List Entry). es ++ l) (sym (ap (map f) (held_next i p q) ∙ map-append f (posts_in i chosen posts) ((get_or chosen i 0, at posts i) ∷ [])))

    pub batch_all : (i n : ℕ) → i ≤ n → n ≤ i → batch i ≡ es ++ map f (posts_in n chosen posts)
    batch_all i n p q = at_end batch i n p q refl

-- ---- a frame by its weight

module _ (k : ℕ) (ls raw : List Float) (es : List Entry) {w : FrameWeight} where
  pub skipped_adds : w ≡ Skipped → es ≡ es ++ map (entry_of raw) (posteriors k w ls)
  unfolding posteriors
  skipped_adds e = rw e (sym (append-nil es))

  pub weighed_adds : (floor scale : Float) → w ≡ Weighed floor scale → es ++ map (scaled_entry scale raw) (select_posteriors ls k floor) ≡ es ++ map (entry_of raw) (posteriors k w ls)
  unfolding posteriors
  weighed_adds floor scale e = rw e (ap (λ (l : List Entry). es ++ l) (sym (map-map (entry_of raw) (λ p. (p.0, p.1 *₃₂ scale)) (select_posteriors ls k floor))))

-- its NaNs
module _ (ls : List Float) {w : FrameWeight} where
  pub skipped_nans : w ≡ Skipped → 0 ≡ nans_of w ls
  unfolding nans_of
  skipped_nans e = rw e

  pub weighed_nans : (floor scale : Float) → w ≡ Weighed floor scale → nan_count ls ≡ nans_of w ls
  unfolding nans_of
  weighed_nans floor scale e = rw e

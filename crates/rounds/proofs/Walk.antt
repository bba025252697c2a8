-- The walk of `get_delta_weights` over a table in rooms, and the changes that it gives.
use Rattle.std.specs.Prelude.{if◌then◌else◌, Option, Some, None, is_some}
use Prim.Native.Nat.{ℕ, suc, ◌+◌, ◌-◌, ◌*◌, ◌≤◌, ◌<◌}
use mathlib.Core.Path.{◌≡◌, refl, sym, ap, ◌∙◌, subst}
use mathlib.Core.Bool.{Bool, true, false, not, ◌||◌}
use mathlib.Core.List.{List, ◌++◌, map, map-append}
use native.Mathlib.Nat.{le_refl}
use native.Mathlib.Numerals.{add-one}
use native.Mathlib.Omega.{arith}
use borrow.Author.Tests.{lt-ltb, le-ltb, eq-eqb, ne_eqb}
use lib.Dec.{eqb, ltb}
use lib.ListN.{length, get_or, length-append, length-map}
use lib.Ieee.{Float, nan, ne}
use Rattle.loops.specs.Lists.{build, flat, over}
use Rattle.loops.specs.Ring.{put}
use Rattle.loops.proofs.Loop.{iter_none, iter_step}
use Rattle.loops.proofs.Choose.{by-test, choose_true, choose_false, choose_map}
use Rattle.loops.proofs.Build.{length_build, map-build}
use Rattle.loops.proofs.Flat.{flat_none, flat_more, flat_add, flat_ext, flat_most}
use Rattle.loops.proofs.Fill.{over_none, over_put, put_past, put_fit}
use Rattle.floats.specs.Operators.{◌-₃₂◌, zero₃₂}
use Rattle.definition.specs.declared.InputFrame.{InputFrame}
use Rattle.definition.specs.declared.DecoderFrame.{DecoderFrame}
use Rattle.definition.specs.Changes.{Change}
use Rattle.definition.specs.Silence.{decoder, FrameInfo, Table, info_at, begin, before, carried, walked, weighted, input_frame, delta_weights}
use Rattle.rounds.specs.Inner.SilenceWeighting.{table_of, place_at, flag_at, status_at, status_of, weight_at, difference, number, given, changes_to}
use Rattle.rounds.proofs.Tables.{place_in, length_table, info_is}

-- ---- a frame's status and weight

module _ (n : ℕ) (ks ss : List Bool) (ws : List Float) (k : ℕ) where
  pub known_at : flag_at n ks k ≡ (info_at (table_of n ks ss ws) k).known
  known_at = sym (ap (λ (f : FrameInfo). f.known) (info_is n ks ss ws k))

  pub silence-at : flag_at n ss k ≡ (info_at (table_of n ks ss ws) k).is_silence
  silence-at = sym (ap (λ (f : FrameInfo). f.is_silence) (info_is n ks ss ws k))

  pub weight_at_is : weight_at n ws k ≡ (info_at (table_of n ks ss ws) k).current_weight
  weight_at_is = sym (ap (λ (f : FrameInfo). f.current_weight) (info_is n ks ss ws k))

  -- whether it is silence, where that is known
  status_is : status_at n ks ss k ≡ status_of (info_at (table_of n ks ss ws) k)
  status_is =
      ap (λ (b : Bool). if b then Some (flag_at n ss k) else None) known_at
      ∙ ap (λ (b : Bool). if (info_at (table_of n ks ss ws) k).known then Some b else None) silence-at

  -- the weight carried to it is that of its status, which is read from rooms that hold the same
  pub carried_on : (w : Float) (blind : Bool) (p : Float) {ks' ss' : List Bool} {o : Option Bool} {q : Float} → ((f : FrameInfo) → o ≡ status_of f → q ≡ carried w blind f p)
      → ks' ≡ ks → ss' ≡ ss → o ≡ status_at n ks' ss' k → q ≡ carried w blind (info_at (table_of n ks ss ws) k) p
  carried_on w blind p h ek es e = h (info_at (table_of n ks ss ws) k) (rw (ek, es) at e ∙ status_is)

some-if : (b s : Bool) → is_some (if b then Some s else None) ≡ b
some-if true s = refl
some-if false s = refl

turned : (b c : Bool) → b ≡ not c → c ≡ not b
turned b true e = rw e refl
turned b false e = rw e refl

-- whether the walk is blind
pub blind_is : (n : ℕ) (ks ss : List Bool) (k : ℕ) {o : Option Bool} {blind : Bool} → o ≡ status_at n ks ss k → is_some o ≡ not blind → blind ≡ not (flag_at n ks k)
blind_is n ks ss k {blind = blind} e h = turned (flag_at n ks k) blind (sym (some-if (flag_at n ks k) (flag_at n ss k)) ∙ ap is_some (sym e) ∙ h)

-- ---- the walk, as far as its frame i: from frame b on, q being the last weight

pub record Walking (n : ℕ) (ks ss : List Bool) (ws : List Float) (w : Float) (size b out : ℕ) (blind : Bool) (q : Float) (i : ℕ) : Type 0 where
  pub within : i ≤ out
  pub begin_is : b ≡ n - 100
  pub out_is : out ≡ size - b
  pub blind_is : blind ≡ not (info_at (table_of n ks ss ws) (begin (table_of n ks ss ws))).known
  pub weight_is : q ≡ walked w (table_of n ks ss ws) i

module _ (n : ℕ) (ks ss : List Bool) (ws : List Float) (w : Float) where
  begins : {b : ℕ} → b ≡ n - 100 → b ≡ begin (table_of n ks ss ws)
  begins e = e ∙ ap (λ (k : ℕ). k - 100) (sym (length_table n ks ss ws))

  pub before_first : (b : ℕ) → b ≡ n - 100 → b ≡ 0 → w ≡ before w (table_of n ks ss ws)
  unfolding before
  before_first b e z = choose_true _ (eq-eqb _ 0 (sym (begins e) ∙ z)) refl

  pub before_later : (b : ℕ) (v : Float) → b ≡ n - 100 → (b ≡ 0 → ⊥) → v ≡ weight_at n ws (b - 1) → v ≡ before w (table_of n ks ss ws)
  unfolding before
  before_later b v e z h =
      choose_false _ (ne_eqb _ 0 (λ q. z (begins e ∙ q))) (h ∙ weight_at_is n ks ss ws (b - 1) ∙ ap (λ (k : ℕ). (info_at (table_of n ks ss ws) (k - 1)).current_weight) (begins e))

  pub walk_start : (size b out : ℕ) (blind : Bool) (q : Float) → b ≡ n - 100 → out ≡ size - b → blind ≡ not (flag_at n ks b) → q ≡ before w (table_of n ks ss ws) → Walking n ks ss ws w size b out blind q 0
  unfolding walked
  walk_start size b out blind q e o f h =
      record {
        within = omega arith;
        begin_is = e;
        out_is = o;
        blind_is = f ∙ ap not (known_at n ks ss ws b ∙ ap (λ (k : ℕ). (info_at (table_of n ks ss ws) k).known) (begins e));
        weight_is = h ∙ iter_none _ _;
      }

-- a turn, from p to q
module _ {n : ℕ} {ks ss : List Bool} {ws : List Float} {w : Float} {size b out : ℕ} {blind : Bool} {i : ℕ} {p q : Float} (s : Walking n ks ss ws w size b out blind p i)
    (h : q ≡ carried w blind (info_at (table_of n ks ss ws) (b + i)) p) where
  pub walk_frame : b + i ≡ begin (table_of n ks ss ws) + i
  walk_frame = ap (λ (z : ℕ). z + i) (begins n ks ss ws w s.begin_is)

  walk_next : q ≡ walked w (table_of n ks ss ws) (i + 1)
  unfolding walked
  walk_next =
      iter_step _ _ i s.weight_is
      (h ∙ ap (λ (z : Bool). carried w z (info_at (table_of n ks ss ws) (b + i)) p) s.blind_is
      ∙ ap (λ (z : ℕ). carried w (not (info_at (table_of n ks ss ws) (begin (table_of n ks ss ws))).known) (info_at (table_of n ks ss ws) z) p) walk_frame)

  pub walk_turn : i < out → Walking n ks ss ws w size b out blind q (i + 1)
  walk_turn l = record { within = omega arith; begin_is = s.begin_is; out_is = s.out_is; blind_is = s.blind_is; weight_is = walk_next }

  pub walk_weight : q ≡ walked w (table_of n ks ss ws) (suc i)
  walk_weight = walk_next ∙ ap (walked w (table_of n ks ss ws)) (add-one i)

  pub walk_difference : {v : Float} → v ≡ weight_at n ws (b + i) → q -₃₂ v ≡ difference w (table_of n ks ss ws) i
  unfolding difference
  walk_difference {v} g =
      ap (λ (z : Float). z -₃₂ v) walk_weight
      ∙ ap (λ (z : Float). walked w (table_of n ks ss ws) (suc i) -₃₂ z) (g ∙ weight_at_is n ks ss ws (b + i) ∙ ap (λ (z : ℕ). (info_at (table_of n ks ss ws) z).current_weight) walk_frame)

-- ---- the changes

module _ (subsampling : ℕ) (diff : Float) (last : Bool) where
  pub number_le : (n : ℕ) → n ≡ number subsampling diff last → n ≤ subsampling
  unfolding number
  number_le n h = by-test (ne diff zero₃₂ || last) (λ e. rw (h, e) (le_refl subsampling)) (λ e. rw (h, e) (omega arith))

  module _ (first : InputFrame) (k : DecoderFrame) where
    length_given : length (given subsampling first k diff last) ≡ number subsampling diff last
    unfolding given
    length_given = length_build _ _

    -- put into one of the answer's two lists, n of them
    pub given_put : {A : Type 0} (f : Change → A) (at n : ℕ) (room : List A) → n ≡ number subsampling diff last → put at (build n (λ j. f ((input_frame subsampling first k j).0, diff))) room ≡ put at (map f (given subsampling first k diff last)) room
    unfolding given
    given_put {A} f at n room e = ap (λ (z : ℕ). put at (build z (λ j. f ((input_frame subsampling first k j).0, diff))) room) e ∙ ap (λ (x : List A). put at x room) (sym (map-build f _ _))

module _ (w : Float) (subsampling : ℕ) (first : InputFrame) (size : ℕ) (t : Table) where
  changes_more : (m : ℕ) → changes_to w subsampling first size t (m + 1) ≡ changes_to w subsampling first size t m ++ given subsampling first (decoder (begin t + m)) (difference w t m) (eqb (begin t + m + 1) size)
  unfolding changes_to
  changes_more m = flat_more m _

  changes_all : (m : ℕ) → m ≡ size - begin t → changes_to w subsampling first size t m ≡ delta_weights w subsampling first (decoder size) t
  unfolding changes_to given number difference delta_weights build
  changes_all m e =
      ap (λ (k : ℕ). changes_to w subsampling first size t k) e
      ∙ flat_ext (size - begin t) _ _ (λ i l. choose_map (λ (n : ℕ). build n (λ j. ((input_frame subsampling first (decoder (begin t + i)) j).0, difference w t i))) (ne (difference w t i) zero₃₂ || eqb (begin t + i + 1) size) subsampling 0)

  pub count_none : 0 ≡ length (changes_to w subsampling first size t 0)
  unfolding changes_to
  count_none = sym (ap length (flat_none _))

  module _ (i k c r : ℕ) (d : Float) (ek : k ≡ begin t + i) (ec : c ≡ length (changes_to w subsampling first size t i)) (ed : d ≡ difference w t i) where
    next : changes_to w subsampling first size t i ++ given subsampling first (decoder k) d (eqb (k + 1) size) ≡ changes_to w subsampling first size t (i + 1)
    next = rw (ek, ed) (sym (changes_more i))

    pub count_turn : r ≡ number subsampling d (eqb (k + 1) size) → c + r ≡ length (changes_to w subsampling first size t (i + 1))
    count_turn e =
        ap (λ (z : ℕ). z + r) ec ∙ ap (λ (z : ℕ). length (changes_to w subsampling first size t i) + z) (e ∙ sym (length_given subsampling d (eqb (k + 1) size) first (decoder k)))
        ∙ sym (length-append (changes_to w subsampling first size t i) _) ∙ ap length next

    -- one of the answer's two lists
    pub give_turn : {A : Type 0} (f : Change → A) (room l l' : List A) → l ≡ over (map f (changes_to w subsampling first size t i)) room
        → l' ≡ put c (map f (given subsampling first (decoder k) d (eqb (k + 1) size))) l → l' ≡ over (map f (changes_to w subsampling first size t (i + 1))) room
    give_turn {A} f room l l' e h =
        h ∙ ap (put c _) e ∙ over_put (map f (changes_to w subsampling first size t i)) _ room c (length-map (changes_to w subsampling first size t i) f ∙ sym ec)
        ∙ ap (λ (z : List A). over z room) (sym (map-append f (changes_to w subsampling first size t i) _) ∙ ap (map f) next)

  pub give_none : {A : Type 0} (f : Change → A) (room : List A) → room ≡ over (map f (changes_to w subsampling first size t 0)) room
  unfolding changes_to flat
  give_none f room = over_none room

  count_below : (i m : ℕ) → i ≤ m → length (changes_to w subsampling first size t i) ≤ length (changes_to w subsampling first size t m)
  unfolding changes_to
  count_below i m h =
      let g : ℕ → List Change = λ i. given subsampling first (decoder (begin t + i)) (difference w t i) (eqb (begin t + i + 1) size) in
      let e : m ≡ i + (m - i) = omega arith in
      omega (arith, ap (λ (k : ℕ). length (flat k g)) e ∙ ap length (flat_add i (m - i) g) ∙ length-append (flat i g) (flat (m - i) (λ k. g (i + k))))

  -- a change of each input frame at most
  few : (m : ℕ) → length (changes_to w subsampling first size t m) ≤ m * subsampling
  unfolding changes_to
  few m = flat_most subsampling m _ (λ i l. number_le subsampling (difference w t i) (eqb (begin t + i + 1) size) _ (length_given subsampling (difference w t i) (eqb (begin t + i + 1) size) first (decoder (begin t + i))))

  pub few_changes : length (delta_weights w subsampling first (decoder size) t) ≤ (size - begin t) * subsampling
  few_changes = subst (λ (l : List Change). length l ≤ (size - begin t) * subsampling) (changes_all (size - begin t) refl) (few (size - begin t))

-- all the changes at the walk's end, and room for them on the way
module _ {n : ℕ} {ks ss : List Bool} {ws : List Float} {w : Float} {size b out : ℕ} {blind : Bool} {q : Float} {i : ℕ} (s : Walking n ks ss ws w size b out blind q i) (subsampling : ℕ) (first : InputFrame) where
  pub walk_end : out ≤ i → changes_to w subsampling first size (table_of n ks ss ws) i ≡ delta_weights w subsampling first (decoder size) (table_of n ks ss ws)
  walk_end l = changes_all w subsampling first size (table_of n ks ss ws) i (omega (arith, length_table n ks ss ws))

  pub room_for : (c m : ℕ) → i < out → c ≡ length (changes_to w subsampling first size (table_of n ks ss ws) (i + 1)) → length (delta_weights w subsampling first (decoder size) (table_of n ks ss ws)) ≤ m → c ≤ m
  room_for c m l e h =
      omega (arith, count_below w subsampling first size (table_of n ks ss ws) (i + 1) out (omega arith), ap length (changes_all w subsampling first size (table_of n ks ss ws) out (omega (arith, length_table n ks ss ws))))

-- ---- the rooms

-- a place that the walk has not written yet
pub unwritten : {n : ℕ} {ks ss : List Bool} {ws : List Float} {w : Float} {size b out : ℕ} {blind : Bool} {q : Float} {i : ℕ} (g : ℕ → Float) (l : List Float) {v : Float} → Walking n ks ss ws w size b out blind q i
    → n ≤ size → size ≤ length ws → l ≡ put b (build i g) ws → v ≡ weight_at n l (b + i) → v ≡ weight_at n ws (b + i)
unfolding place_at
unwritten {n} {ws = ws} {b = b} {i = i} g l s p h e f =
    f
    ∙ ap (λ (z : Float). if ltb (b + i) n then z else zero₃₂)
    (ap (λ (z : List Float). get_or z (b + i) nan) e ∙ put_past nan b (build i g) ws (omega arith) (b + i) (omega (arith, length_build i g)))

module _ (n : ℕ) (ks ss : List Bool) (ws : List Float) (w : Float) (size b out : ℕ) (l : n ≤ size) (eb : b ≡ n - 100) (eo : out ≡ size - b) where
  -- all that the walk writes
  pub written : size ≤ length ws → put b (build out (λ j. walked w (table_of n ks ss ws) (suc j))) ws ≡ over (map (λ (f : FrameInfo). f.current_weight) (weighted w (decoder size) (table_of n ks ss ws))) ws
  unfolding weighted
  written q =
      rw map-build
      (put_fit nan b out size _ _ ws (omega arith) q
      (λ k h. place_in nan zero₃₂ n ws k (omega arith) ∙ weight_at_is n ks ss ws k ∙ choose_true _ (lt-ltb k _ (omega (arith, length_table n ks ss ws))) refl)
      (λ i h.
      let e : i ≡ b + i - begin (table_of n ks ss ws) = omega (arith, length_table n ks ss ws) in
      choose_false _ (le-ltb (b + i) _ (omega (arith, length_table n ks ss ws))) (ap (λ (z : ℕ). walked w (table_of n ks ss ws) (suc z)) e)))

pub length-weighted : (w : Float) (n : ℕ) (t : Table) → length (weighted w (decoder n) t) ≡ n
unfolding weighted
length-weighted w n t = length_build n _

-- What a fetch leaves: the record, the rooms and the vector, by the parts that code makes.
use Rattle.std.specs.Prelude.{if◌then◌else◌}
use mathlib.Core.Path.{◌≡◌, refl, sym, ap, ap₂, subst, ◌∙◌}
use mathlib.Core.Bool.{Bool, true, false}
use mathlib.Core.List.{List, [], ◌∷◌}
use Prim.Native.Nat.{ℕ, zero, suc, ◌+◌, ◌-◌, ◌≤◌, ◌<◌}
use native.Mathlib.Omega.{arith}
use lib.ListN.{length, get_or, take, drop, length-drop}
use lib.Seq.{length-take-le}
use lib.Dec.{leb}
use lib.Ieee.{Float, nan}
use borrow.Author.Tests.{le-leb, lt-leb, leb-true}
use Rattle.loops.specs.Lists.{build, those, over}
use Rattle.loops.proofs.Build.{at_build, build_ext}
use Rattle.loops.proofs.Choose.{by-test, choose_true, choose_false}
use Rattle.loops.proofs.Fill.{length_over, over_at, over_take}
use Rattle.loops.proofs.Refusal.{taken_new}
use Rattle.floats.specs.Operators.{at}
use Rattle.definition.specs.declared.IvectorInfo.{IvectorInfo}
use Rattle.definition.specs.declared.IvectorStream.{IvectorStream}
use Rattle.definition.specs.declared.StreamCall.{StreamCall}
use Rattle.definition.specs.Model.{Tables, in_force, table_lengths_of, model_in}
use Rattle.definition.specs.Posteriors.{unweighted}
use Rattle.definition.specs.Changes.{Change, Changes, Batch, reached, batch}
use Rattle.definition.specs.Estimate.{Estimate, updated, nans_over}
use Rattle.definition.specs.Machine.{bits_of, not_finite}
use Rattle.definition.specs.Stream.{rising}
use Rattle.definition.proofs.Lengths.{Long, updated_long}
use Rattle.definition.proofs.Ranges.{Fitting, fitting}
use Rattle.program.specs.Rooms.{rings_from, EstimateRooms, estimate_from, Rooms, rooms_from, room_lengths_of, waiting_in, frames_of, weights_of, ring_frames, frames_in, changes_in, estimate_at, estimate_in}
use Rattle.program.specs.Calls.{call_of, over_waiting, Step, fetch_call, fetched_on, fetch_refusal, get_frame, catches_up, fetch_estimate, fetch_changes, fetch_stream, over_estimate, fetch_rooms, fetch_vector, fetch_nans}
use Rattle.program.proofs.WaitingRooms.{length_waiting, frames_waiting, weights_waiting}
use Rattle.program.proofs.InOrder.{waiting_early, waiting_late}
use Rattle.program.proofs.Steps.{same_by_four}
use Rattle.stream.specs.Inner.IvectorBatch.{batch_of, changes_batch, run}
use Rattle.stream.specs.Inner.IvectorFetch.{fetched_at}
use Rattle.stream.proofs.Vector.{fetched_is}
use Rattle.stream.proofs.Short.{batch_short}
use Rattle.stream.proofs.FetchRefusals.{FetchTaken, rooms_fit_is}

-- what passes a test passes it
first_pass : {A : Type 0} (p : A → Bool) (d x : A) (ys : List A) → p x ≡ true → ((k : ℕ) → k < length ys → p (get_or ys k d) ≡ true) → (k : ℕ) → k < length (x ∷ ys) → p (get_or (x ∷ ys) k d) ≡ true
first_pass p d x ys t h zero l = t
first_pass p d x ys t h (suc k) l = h k (omega arith)

those_pass : {A : Type 0} (p : A → Bool) (d : A) (xs : List A) (k : ℕ) → k < length (those p xs) → p (get_or (those p xs) k d) ≡ true
unfolding those
those_pass p d [] k l = absurd (omega arith)
those_pass p d (x ∷ xs) k l =
    by-test (p x) (λ t. rw t (first_pass p d x (those p xs) t (λ j m. those_pass p d xs j m) k (rw t at l))) (λ t. rw t (those_pass p d xs k (rw t at l)))

-- the refusal of a step is that of its tests
pub asked : (s : IvectorStream) (t : Tables) (z : Rooms) (n f m : ℕ) → (get_frame s t z n f m).refusal ≡ 0
    → fetch_refusal s (table_lengths_of t) (room_lengths_of z n) z.rings.waiting_frames f m ≡ 0
unfolding get_frame
asked s t z n f m e = e

-- a fetch leaves the model as it is
pub prior_is : (s : IvectorStream) (t : Tables) (z : Rooms) (f : ℕ) {r : IvectorStream} → r ≡ fetch_stream s t z f → r.info.prior_offset ≡ s.info.prior_offset
unfolding fetch_stream
prior_is s t z f e = ap (λ (r : IvectorStream). r.info.prior_offset) e

-- how many are up to f, from a list that code was lent for another
pub counted : (f w : ℕ) {fs fs' : List ℕ} {n : ℕ} → fs' ≡ fs → w ≤ length fs → (n ≡ length (those (λ g. leb g f) (take w fs'))) × (n ≤ length (take w fs'))
    → (n ≡ length (those (λ g. leb g f) (take w fs))) × (n ≤ w)
counted f w {fs} e l (c, m) = (rw (← e) c, omega (arith, m, length-take-le w fs l, ap (λ (x : List ℕ). length (take w x)) e))

module _ (s : IvectorStream) (z : Rooms) (f : ℕ) where
  -- the model's record with the window in force
  abbrev now : IvectorInfo
  now = in_force s.info s.window

  abbrev W : List Change
  W = waiting_in s.waiting z.rings.waiting_frames z.rings.waiting_weights

  -- k waiting changes are up to f
  module _ (k : ℕ) (l : s.waiting ≤ length z.rings.waiting_frames) (o : rising 0 (take s.waiting z.rings.waiting_frames) ≡ true)
      (e : k ≡ length (those (λ g. leb g f) (take s.waiting z.rings.waiting_frames))) (m : k ≤ s.waiting) where
    early : those (λ d. leb d.0 f) W ≡ waiting_in k z.rings.waiting_frames z.rings.waiting_weights
    early = waiting_early f s.waiting k z.rings.waiting_frames z.rings.waiting_weights l o e m

    pub early_at : (j : ℕ) → j < k → get_or z.rings.waiting_frames j 0 ≤ f
    unfolding waiting_in
    early_at j p =
        let w : List Change = waiting_in k z.rings.waiting_frames z.rings.waiting_weights in
        let q : j < length (those (λ (d : Change). leb d.0 f) W) = rw early (omega (arith, length_waiting k z.rings.waiting_frames z.rings.waiting_weights)) in
        let h : leb (get_or (those (λ (d : Change). leb d.0 f) W) j (0, nan)).0 f ≡ true = those_pass (λ (d : Change). leb d.0 f) (0, nan) W j q in
        let g : get_or (those (λ (d : Change). leb d.0 f) W) j (0, nan) ≡ (get_or z.rings.waiting_frames j 0, at z.rings.waiting_weights j) =
        ap (λ (l : List Change). get_or l j (0, nan)) early ∙ at_build (0, nan) k (λ i. (get_or z.rings.waiting_frames i 0, at z.rings.waiting_weights i)) j p in
        leb-true _ _ (ap (λ (d : Change). leb d.0 f) (sym g) ∙ h)

    batch_is : batch_of now.opts s.delta_weights_provided s.num_frames_stats f (waiting_in k z.rings.waiting_frames z.rings.waiting_weights)
        ≡ batch now.opts (changes_in s z.rings) s.num_frames_stats f
    unfolding batch
    batch_is =
        ap (λ (cs : List Change). if s.delta_weights_provided then changes_batch now.opts cs else run s.num_frames_stats (unweighted now.opts) (f + 1 - s.num_frames_stats)) (sym early)

    few_now : length (batch_of now.opts s.delta_weights_provided s.num_frames_stats f (waiting_in k z.rings.waiting_frames z.rings.waiting_weights)) ≤ f + 1
    few_now =
        rw batch_is (batch_short f now.opts (changes_in s z.rings) s.num_frames_stats
        (ap (rising 0) (frames_waiting s.waiting z.rings.waiting_frames z.rings.waiting_weights l) ∙ o))

    -- by a record i that code made of it
    abbrev batch_by : IvectorInfo → Batch
    batch_by i = batch_of i.opts s.delta_weights_provided s.num_frames_stats f (waiting_in k z.rings.waiting_frames z.rings.waiting_weights)

    pub few_frames : {i : IvectorInfo} → i ≡ now → length (batch_by i) ≤ f + 1
    few_frames e = subst (λ (i : IvectorInfo). length (batch_by i) ≤ f + 1) (sym e) few_now

    module _ (t : Tables) (h : s.num_frames_stats ≤ f) {i : IvectorInfo} (same : i ≡ now) where
      abbrev by : IvectorInfo → Estimate
      by i = updated (model_in i t) (ring_frames i.dims.base_dim s.accepted z.rings.frames z.rings.rows) (batch_by i) (estimate_at i.dims s.num_frames z.estimate)

      abbrev E : Estimate
      E = by i

      up : catches_up s f ≡ true
      up = le-leb _ _ h

      estimate_up : E ≡ fetch_estimate s t z f
      unfolding fetch_estimate
      estimate_up = ap by same ∙ choose_true _ up (ap (λ (b : _). updated (model_in now t) (frames_in s z.rings) b (estimate_in s z.estimate)) batch_is)

      changes_up : reached (changes_in s z.rings) f ≡ fetch_changes s z.rings f
      unfolding fetch_changes
      changes_up = choose_true _ up refl

      left_up : drop k W ≡ (fetch_changes s z.rings f).waiting
      unfolding reached
      left_up = sym (waiting_late f s.waiting k z.rings.waiting_frames z.rings.waiting_weights l o e) ∙ ap (λ (c : Changes). c.waiting) changes_up

      length_up : s.waiting - k ≡ length (fetch_changes s z.rings f).waiting
      length_up = sym (length-drop k W ∙ ap (λ (n : ℕ). n - k) (length_waiting s.waiting z.rings.waiting_frames z.rings.waiting_weights)) ∙ ap length left_up

      pub stream_up : {n : Float} → n ≡ E.stats.num_frames
          → record {
            info = s.info;
            lengths = s.lengths;
            accepted = s.accepted;
            num_frames_stats = f + 1;
            mark = s.mark;
            waiting = s.waiting - k;
            past_highest = s.past_highest;
            delta_weights_provided = s.delta_weights_provided;
            input_finished = s.input_finished;
            num_frames = n;
            floor = s.floor;
            window = s.window;
            longest = s.longest;
          } ≡ fetch_stream s t z f
      unfolding fetch_stream reached
      stream_up g = rw (g ∙ ap (λ (e : Estimate). e.stats.num_frames) estimate_up, length_up, sym changes_up, up)

      pub rooms_up : {fs : List ℕ} {ws : List Float} {y : EstimateRooms} → fs ≡ over (frames_of (drop k W)) z.rings.waiting_frames → ws ≡ over (weights_of (drop k W)) z.rings.waiting_weights
          → y ≡ over_estimate E z.estimate → rooms_from (rings_from z.rings.frames z.rings.rows fs ws) y ≡ fetch_rooms s t z f
      unfolding fetch_rooms
      rooms_up p q r =
          rw (p ∙ ap (λ (c : List Change). over (frames_of c) z.rings.waiting_frames) left_up, q ∙ ap (λ (c : List Change). over (weights_of c) z.rings.waiting_weights) left_up, r ∙ ap (λ (e : Estimate). over_estimate e z.estimate) estimate_up)

      abbrev nans_by : IvectorInfo → ℕ
      nans_by i = nans_over (model_in i t) (ring_frames i.dims.base_dim s.accepted z.rings.frames z.rings.rows) (batch_by i) (estimate_at i.dims s.num_frames z.estimate).cmvn

      pub nans_up : {n : ℕ}
          → n ≡ nans_by i → n ≡ fetch_nans s t z f
      unfolding fetch_nans
      nans_up g = g ∙ ap nans_by same ∙ choose_true _ up (ap (λ (b : _). nans_over (model_in now t) (frames_in s z.rings) b (estimate_in s z.estimate).cmvn) batch_is)

-- ---- once a fetch is taken

module _ (s : IvectorStream) (t : Tables) (z : Rooms) (f : ℕ) {scratch n : ℕ} (T : FetchTaken s (table_lengths_of t) z scratch f n) where
  abbrev fit : Fitting s.info.dims (room_lengths_of z scratch)
  fit = fitting _ _ (rooms_fit_is _ _ _ _ _ _ T)

  pub frames_in_is : s.waiting ≤ length z.rings.waiting_frames
  frames_in_is = omega (arith, T.passed.whole_is.waiting_fit, T.passed.waiting_frames_are)

  pub weights_in : s.waiting ≤ length z.rings.waiting_weights
  weights_in = omega (arith, T.passed.whole_is.waiting_fit, T.passed.waiting_weights_are)

  -- f is in the statistics already: nothing changes
  module _ (h : f < s.num_frames_stats) where
    in_already : catches_up s f ≡ false
    in_already = lt-leb _ _ h

    estimate_same : estimate_in s z.estimate ≡ fetch_estimate s t z f
    unfolding fetch_estimate
    estimate_same = choose_false _ in_already refl

    changes_same : changes_in s z.rings ≡ fetch_changes s z.rings f
    unfolding fetch_changes
    changes_same = choose_false _ in_already refl

    pub stream_same : s ≡ fetch_stream s t z f
    unfolding fetch_stream
    stream_same = rw (sym changes_same, sym estimate_same, in_already, length_waiting s.waiting z.rings.waiting_frames z.rings.waiting_weights) refl

    pub nans_same : 0 ≡ fetch_nans s t z f
    unfolding fetch_nans
    nans_same = choose_false _ in_already refl

    waiting_same : z.rings ≡ over_waiting (changes_in s z.rings) z.rings
    waiting_same =
        ap₂ (rings_from z.rings.frames z.rings.rows)
        (over_take s.waiting z.rings.waiting_frames frames_in_is (frames_waiting s.waiting z.rings.waiting_frames z.rings.waiting_weights frames_in_is))
        (over_take s.waiting z.rings.waiting_weights weights_in (weights_waiting s.waiting z.rings.waiting_frames z.rings.waiting_weights weights_in))

    held_same : z.estimate ≡ over_estimate (estimate_in s z.estimate) z.estimate
    held_same =
        same_by_four estimate_from
        (over_take _ z.estimate.cmvn fit.cmvn_fits refl)
        (over_take _ z.estimate.linear fit.linear_fits refl)
        (over_take _ z.estimate.quadratic fit.quadratic_fits refl)
        (over_take _ z.estimate.current fit.current_fits refl)

    pub rooms_same : z ≡ fetch_rooms s t z f
    unfolding fetch_rooms
    rooms_same =
        ap₂ rooms_from (waiting_same ∙ ap (λ (c : Changes). over_waiting c z.rings) changes_same) (held_same ∙ ap (λ (e : Estimate). over_estimate e z.estimate) estimate_same)

  -- the vector

  long : Long s.info.dims.base_dim s.info.dims.ivector_dim (estimate_in s z.estimate)
  long =
      record {
        cmvn_is = length-take-le _ z.estimate.cmvn fit.cmvn_fits;
        linear_is = length-take-le _ z.estimate.linear fit.linear_fits;
        quadratic_is = length-take-le _ z.estimate.quadratic fit.quadratic_fits;
        current_is = length-take-le _ z.estimate.current fit.current_fits;
      }

  vector_long : length (fetch_estimate s t z f).current ≡ s.info.dims.ivector_dim
  unfolding fetch_estimate
  vector_long = by-test (catches_up s f) (λ e. rw e (updated_long (model_in (in_force s.info s.window) t) (frames_in s z.rings) _ (estimate_in s z.estimate) long).current_is) (λ e. rw e long.current_is)

  -- the current vector's room is as long as it was
  pub current_long : {y : Rooms} → y ≡ fetch_rooms s t z f → length y.estimate.current ≡ length z.estimate.current
  unfolding fetch_rooms
  current_long e =
      ap (λ (y : Rooms). length y.estimate.current) e
      ∙ length_over (fetch_estimate s t z f).current z.estimate.current (omega (arith, vector_long, fit.current_fits))

  vector_is : (m : ℕ) {cur : List Float} → m ≡ s.info.dims.ivector_dim → cur ≡ (fetch_rooms s t z f).estimate.current
      → build m (λ i. fetched_at s.info.prior_offset i (at cur i)) ≡ fetch_vector s t z f
  unfolding fetch_rooms fetch_vector
  vector_is m {cur} e h =
      let v : List Float = (fetch_estimate s t z f).current in
      let g : ℕ → Float = λ i. fetched_at s.info.prior_offset i (at v i) in
      ap (λ (c : List Float). build m (λ i. fetched_at s.info.prior_offset i (at c i))) h
      ∙ build_ext m _ g (λ i p. ap (fetched_at s.info.prior_offset i) (over_at nan v z.estimate.current i (omega (arith, vector_long))))
      ∙ ap (λ (k : ℕ). build k g) (e ∙ sym vector_long)
      ∙ sym (fetched_is (model_in s.info t) v (omega (arith, vector_long, T.passed.dims_are.some_ivector)))

  pub still_few : {r : IvectorStream} → r ≡ fetch_stream s t z f → (r.accepted ≤ 1000000000) × (r.mark ≤ 1000000000)
  unfolding fetch_stream
  still_few e = rw e (T.passed.whole_is.few, omega (arith, T.passed.whole_is))

-- ---- what is returned, and the rooms and the output: of a step x on record s, rooms z and an output

module _ (s : IvectorStream) (z : Rooms) (out : List ℕ) (x : Step) where
  fetch_done : {c : StreamCall} {s' : IvectorStream} {b m : ℕ} {z' : Rooms} {out' : List ℕ} → c ≡ call_of 0 s' b m → 0 ≡ x.refusal → s' ≡ x.stream → b ≡ not_finite x.vector
      → m ≡ x.nans → z' ≡ x.rooms → out' ≡ over (bits_of x.vector) out → fetch_call c z' out' ≡ fetched_on s z out x
  fetch_done h e p q u r o =
      let g : x.refusal ≡ 0 = sym e in
      let n : ℕ = x.refusal in
      rw (taken_new n x.stream s g, taken_new n (not_finite x.vector) 0 g, taken_new n x.nans 0 g, taken_new n x.rooms z g, taken_new n (over (bits_of x.vector) out) out g, h, p, q, u, r, o, g)

-- a fetch that is taken, by what code leaves: the record, the rooms, the count of NaN likelihoods, and the vector's bits and count
module _ (s : IvectorStream) (t : Tables) (z : Rooms) (f : ℕ) {scratch n : ℕ} (T : FetchTaken s (table_lengths_of t) z scratch f n) where
  abbrev vector_of : ℕ → Rooms → List Float
  vector_of m y = build m (λ i. fetched_at s.info.prior_offset i (at y.estimate.current i))

  pub fetch_made : (out : List ℕ) {c : StreamCall} {r : IvectorStream} {b m : ℕ} {y : Rooms} {out' : List ℕ}
      → fetch_refusal s (table_lengths_of t) (room_lengths_of z scratch) z.rings.waiting_frames f (length out) ≡ 0 → length out ≡ s.info.dims.ivector_dim
      → c ≡ call_of 0 r b m → r ≡ fetch_stream s t z f → y ≡ fetch_rooms s t z f → m ≡ fetch_nans s t z f
      → (out' ≡ over (bits_of (vector_of (length out) y)) out) × (b ≡ not_finite (vector_of (length out) y))
      → fetch_call c y out' ≡ fetched_on s z out (get_frame s t z scratch f (length out))
  unfolding get_frame
  fetch_made out none wide h p q u (o, e) =
      let v = vector_is s t z f T (length out) wide (ap (λ (y : Rooms). y.estimate.current) q) in
      fetch_done s z out (get_frame s t z scratch f (length out)) h (sym none) p (e ∙ ap not_finite v) u q (o ∙ ap (λ (x : List Float). over (bits_of x) out) v)

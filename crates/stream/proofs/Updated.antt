-- A batch's sums in the statistics, and the estimate after it: a batch that is not empty is accumulated as its entries are.
use mathlib.Core.Path.{◌≡◌, refl}
use Prim.Native.Nat.{ℕ, zero, suc, ◌-◌, ◌<◌}
use native.Mathlib.Nat.{not-suc-le-zero}
use native.Mathlib.Omega.{arith}
use mathlib.Core.List.{List, [], ◌∷◌, map}
use lib.ListN.{length}
use lib.Ieee.{Float}
use lib.Dec.{eqb}
use Rattle.loops.specs.Lists.{build}
use Rattle.loops.proofs.Choose.{by-test}
use Rattle.floats.specs.Operators.{◌+₃₂◌}
use Rattle.definition.specs.declared.IvectorOptions.{IvectorOptions}
use Rattle.definition.specs.declared.FrameWeight.{FrameWeight}
use Rattle.definition.specs.Model.{Model}
use Rattle.definition.specs.Views.{Frames}
use Rattle.definition.specs.Posteriors.{weighed, unweighted}
use Rattle.definition.specs.Statistics.{Entry, Stats, acc}
use Rattle.definition.specs.Changes.{Change, merged, merged_from, Batch}
use Rattle.definition.specs.Solve.{get_ivector}
use Rattle.definition.specs.Estimate.{Estimate, entries, nans_over, accumulated, updated}
use Rattle.program.specs.Rooms.{waiting_in}
use Rattle.program.proofs.WaitingRooms.{length_waiting}
use Rattle.stream.specs.declared.ivector_batch.intake.Intake.{Intake}
use Rattle.stream.specs.Inner.IvectorBatch.{run, changes_batch, batch_in, places_of}

module _ (M : Model) where
  open M.info use {opts, dims, prior_offset as prior}
  open dims use {feat_dim as d, ivector_dim as s}
  open M.tables use {sigma_inv_m, u}

  -- a batch of some frames
  module _ (es : List Entry) (st : Stats) where
    abbrev taken_in : Stats
    taken_in = acc d s sigma_inv_m u prior opts.max_count es st

    run_taken : (first : ℕ) (w : FrameWeight) (n : ℕ) → 0 < n → taken_in ≡ accumulated M (run first w n) es st
    unfolding accumulated build
    run_taken first w zero p = absurd (not-suc-le-zero p)
    run_taken first w (suc n) p = refl

    group_taken : (o : IvectorOptions) (t : ℕ) (w : Float) (cs : List Change) → taken_in ≡ accumulated M (map (λ d. (d.0, weighed o d.1)) (merged_from t w cs)) es st
    unfolding accumulated merged_from
    group_taken o t w [] = refl
    group_taken o t w (c ∷ cs) =
        by-test (eqb c.0 t)
        (λ h. rw h (group_taken o c.0 (w +₃₂ c.1) cs))
        (λ h. rw h refl)

    changes_taken : (o : IvectorOptions) (cs : List Change) → 0 < length cs → taken_in ≡ accumulated M (changes_batch o cs) es st
    unfolding merged
    changes_taken o [] p = absurd (not-suc-le-zero p)
    changes_taken o (c ∷ cs) p = group_taken o c.0 c.1 cs

    pub batch_taken : (o : IvectorOptions) (x : Intake) → 0 < places_of x → taken_in ≡ accumulated M (batch_in o x) es st
    batch_taken o x p =
        let fs = x.waiting.frames.now in
        let ws = x.waiting.weights.now in
        by-test x.called
        (λ h. rw h (changes_taken o (waiting_in x.changes fs ws) (omega (arith, length_waiting x.changes fs ws, rw h at p))))
        (λ h. rw h (run_taken x.next (unweighted o) (x.end - x.next) (rw h at p)))

    -- a batch of none
    pub none_taken : {bs : Batch} → bs ≡ [] → st ≡ accumulated M bs es st
    unfolding accumulated
    none_taken e = rw e

  pub nans_in_none : (F : Frames) (c : List Float) {bs : Batch} → bs ≡ [] → 0 ≡ nans_over M F bs c
  unfolding nans_over
  nans_in_none F c e = rw e

  pub state_none : (F : Frames) (c : List Float) {bs : Batch} → bs ≡ [] → c ≡ (entries M F bs c).0
  unfolding entries
  state_none F c e = rw e

  -- the estimate, by its parts
  pub estimated : (F : Frames) (bs : Batch) (e : Estimate) {c v : List Float} {st : Stats} → c ≡ (entries M F bs e.cmvn).0
      → st ≡ accumulated M bs (entries M F bs e.cmvn).1 e.stats
      → v ≡ get_ivector s prior opts.num_cg_iters st e.current
      → record { cmvn = c; stats = st; current = v } ≡ updated M F bs e
  unfolding updated
  estimated F bs e h g k = rw (k, g, h)

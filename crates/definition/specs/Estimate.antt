-- A fetch's work on a batch of frames, each with its weight: `flush` of `update_stats_until`, and `update_stats_for_frames`.
use Rattle.std.specs.Prelude.{ℕ, ◌+◌, List, [], ◌∷◌, ◌++◌, map, Float}
use Rattle.definition.specs.Model.{Model}
use Rattle.definition.specs.Views.{Frames, normalised_row, raw_row, lda_frame}
use Rattle.definition.specs.Posteriors.{loglikes, posteriors, nans_of}
use Rattle.definition.specs.Statistics.{Stats, Entry, acc}
use Rattle.definition.specs.Solve.{get_ivector}
use Rattle.definition.specs.Changes.{Batch}

-- what a fetch changes of a stream's numbers
pub record Estimate : Type 0 where
  pub cmvn : List Float  -- the CMVN state: sums, then the count
  pub stats : Stats
  pub current : List Float  -- the current vector

module _ (M : Model) where
  open M.tables use {gconsts, means_invvars_t, inv_vars_t, sigma_inv_m, u, lda_t, lda_offset, global_mean_stats}
  open M.info use {opts as o, prior_offset as prior}
  open M.info.dims use {num_gauss as g, feat_dim as d, ivector_dim as s, base_dim as dim}

  -- frame t is fetched, the CMVN state being cmvn: the state that it leaves, and its log-likelihoods
  abbrev pub heard : Frames → ℕ → List Float → List Float × List Float
  heard F t cmvn =
      let (cmvn', row) = normalised_row o dim global_mean_stats F t cmvn in
      (cmvn', loglikes g d gconsts means_invvars_t inv_vars_t (lda_frame d lda_t lda_offset row))

  -- each frame is fetched, a skipped one too, and leaves its CMVN state to the next; the statistics take its raw features
  unfoldable pub entries : Frames → Batch → List Float → List Float × List Entry
  entries F [] cmvn = (cmvn, [])
  entries F (b ∷ bs) cmvn =
      let (cmvn', ls) = heard F b.0 cmvn in
      let raw = lda_frame d lda_t lda_offset (raw_row o dim F b.0) in
      let (cmvn'', rest) = entries F bs cmvn' in
      (cmvn'', map (λ p. record { gauss = p.0; value = p.1; feats = raw }) (posteriors o.num_gselect b.1 ls) ++ rest)

  -- request 4: the NaNs among the log-likelihoods of a batch
  unfoldable pub nans_over : Frames → Batch → List Float → ℕ
  nans_over F [] cmvn = 0
  nans_over F (b ∷ bs) cmvn = let (cmvn', ls) = heard F b.0 cmvn in nans_of b.1 ls + nans_over F bs cmvn'

  -- an empty batch adds nothing at all
  unfoldable pub accumulated : Batch → List Entry → Stats → Stats
  accumulated [] es st = st
  accumulated (b ∷ bs) es st = acc d s sigma_inv_m u prior o.max_count es st

  unfoldable pub updated : Frames → Batch → Estimate → Estimate
  updated F bs e =
      let (cmvn, es) = entries F bs e.cmvn in
      let stats = accumulated bs es e.stats in
      record { cmvn = cmvn; stats = stats; current = get_ivector s prior o.num_cg_iters stats e.current }

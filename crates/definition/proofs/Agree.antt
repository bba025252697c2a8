-- The arithmetic of a fetch is the same over two accessors that agree on what is held: so it serves a ring and a whole history.
-- One law for each stage; `updated_ext` is that of a whole fetch, `nans_ext` that of its count of NaN likelihoods.
use mathlib.Core.Path.{◌≡◌, refl}
use Prim.Native.Nat.{ℕ, ◌+◌, ◌-◌, ◌≤◌, ◌<◌}
use native.Mathlib.Omega.{arith}
use mathlib.Core.List.{List, [], ◌∷◌}
use lib.Ieee.{Float}
use Rattle.loops.proofs.Loop.{iter_ext}
use Rattle.loops.proofs.Build.{build_ext}
use Rattle.loops.proofs.Flat.{flat_ext}
use Rattle.floats.specs.Operators.{◌-₆₄◌}
use Rattle.definition.specs.declared.IvectorOptions.{IvectorOptions}
use Rattle.definition.specs.Options.{width}
use Rattle.definition.specs.Model.{Model}
use Rattle.definition.specs.Views.{Frames, windowed, cmvn_state, cmvn_frame, splice_at, raw_row, normalised_row}
use Rattle.definition.specs.Changes.{Batch}
use Rattle.definition.specs.Estimate.{Estimate, entries, nans_over, updated}

-- two accessors that agree on the frames from mark on, and on the rows from mark + 1 - window on
pub record Agree (F G : Frames) (dim mark window : ℕ) : Type 0 where
  pub accepted_is : F.accepted ≡ G.accepted
  pub frame_is : (t d : ℕ) → mark ≤ t → t < F.accepted → d < dim → F.frame t d ≡ G.frame t d
  pub prefix_is : (t d : ℕ) → mark + 1 - window ≤ t → t ≤ F.accepted → d < dim → F.prefix t d ≡ G.prefix t d

-- so they do for a shorter window, from a mark on that is not below (request 12)
pub agree_shorter : {F G : Frames} {dim mark mark' window window' : ℕ} → mark ≤ mark' → mark + 1 - window ≤ mark' + 1 - window' → Agree F G dim mark window → Agree F G dim mark' window'
agree_shorter h l a =
    record {
      accepted_is = a.accepted_is;
      frame_is = λ t d p q m. a.frame_is t d (omega arith) q m;
      prefix_is = λ t d p q m. a.prefix_is t d (omega arith) q m;
    }

module _ (o : IvectorOptions) (dim : ℕ) (F G : Frames) (mark : ℕ) (some : 0 < dim) (a : Agree F G dim mark o.cmn_window) where
  pub windowed_ext : (t : ℕ) → mark ≤ t → t < F.accepted → windowed o dim F t ≡ windowed o dim G t
  unfolding windowed
  windowed_ext t p q =
      rw (build_ext dim (λ d. F.prefix (t + 1) d -₆₄ F.prefix (t + 1 - o.cmn_window) d) (λ d. G.prefix (t + 1) d -₆₄ G.prefix (t + 1 - o.cmn_window) d)
      (λ d l. rw (a.prefix_is (t + 1) d (omega arith) (omega arith) l, a.prefix_is (t + 1 - o.cmn_window) d (omega arith) (omega arith) l)))

  pub state_ext : (global : List Float) (t : ℕ) (s : List Float) → mark ≤ t → t < F.accepted → cmvn_state o dim global F t s ≡ cmvn_state o dim global G t s
  unfolding cmvn_state
  state_ext global t s p q = rw (a.frame_is t 0 p q some, windowed_ext t p q)

  pub view_ext : (t : ℕ) (s : List Float) → mark ≤ t → t < F.accepted → cmvn_frame dim F t s ≡ cmvn_frame dim G t s
  unfolding cmvn_frame
  view_ext t s p q = build_ext dim _ _ (λ d l. rw (a.frame_is t d p q l))

  module _ (t : ℕ) (p : mark ≤ t - o.left_context) (q : t < F.accepted) where
    splice_ext : (n : ℕ) → splice_at o F.accepted t n ≡ splice_at o G.accepted t n
    splice_ext n = rw a.accepted_is

    pub splice_from : (n : ℕ) → mark ≤ splice_at o F.accepted t n
    unfolding splice_at
    splice_from n = omega (arith, p, q)

    pub splice_below : (n : ℕ) → splice_at o F.accepted t n < F.accepted
    unfolding splice_at
    splice_below n = omega (arith, p, q)

    pub raw_ext : raw_row o dim F t ≡ raw_row o dim G t
    unfolding raw_row
    raw_ext = flat_ext (width o) _ _ (λ n l. rw (← splice_ext n) (build_ext dim _ _ (λ d m. a.frame_is _ d (splice_from n) (splice_below n) m)))

    pub row_ext : (global s : List Float) → normalised_row o dim global F t s ≡ normalised_row o dim global G t s
    unfolding normalised_row
    row_ext global s =
        iter_ext (width o) _ _ (s, [])
        (λ n l x. rw (← splice_ext n, state_ext global _ x.0 (splice_from n) (splice_below n), view_ext _ (cmvn_state o dim global G (splice_at o F.accepted t n) x.0) (splice_from n) (splice_below n)))

-- every frame of a batch has its context held
abbrev pub Inside : IvectorOptions → ℕ → ℕ → Batch → Type 0
Inside o mark accepted [] = Unit {0}
Inside o mark accepted (b ∷ bs) = (mark ≤ b.0 - o.left_context) × (b.0 < accepted) × Inside o mark accepted bs

module _ (M : Model) (F G : Frames) (mark : ℕ) (some : 0 < M.info.dims.base_dim) (a : Agree F G M.info.dims.base_dim mark M.info.opts.cmn_window) where
  pub entries_ext : (bs : Batch) (c : List Float) → Inside M.info.opts mark F.accepted bs → entries M F bs c ≡ entries M G bs c
  unfolding entries
  entries_ext [] c h = refl
  entries_ext (b ∷ bs) c h =
      rw (
        raw_ext M.info.opts M.info.dims.base_dim F G mark some a b.0 h.0 h.1,
        row_ext M.info.opts M.info.dims.base_dim F G mark some a b.0 h.0 h.1 M.tables.global_mean_stats c,
        entries_ext bs (normalised_row M.info.opts M.info.dims.base_dim M.tables.global_mean_stats G b.0 c).0 h.2,
      )

  pub updated_ext : (bs : Batch) (e : Estimate) → Inside M.info.opts mark F.accepted bs → updated M F bs e ≡ updated M G bs e
  unfolding updated
  updated_ext bs e h = rw (entries_ext bs e.cmvn h)

  pub nans_ext : (bs : Batch) (c : List Float) → Inside M.info.opts mark F.accepted bs → nans_over M F bs c ≡ nans_over M G bs c
  unfolding nans_over
  nans_ext [] c h = refl
  nans_ext (b ∷ bs) c h =
      rw (
        row_ext M.info.opts M.info.dims.base_dim F G mark some a b.0 h.0 h.1 M.tables.global_mean_stats c,
        nans_ext bs (normalised_row M.info.opts M.info.dims.base_dim M.tables.global_mean_stats G b.0 c).0 h.2,
      )

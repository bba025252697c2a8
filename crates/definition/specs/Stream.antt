-- "When a call is declined", 8 and 10 of a stream: what a record and the lent rooms have to meet. A record that was not made by a load or a
-- fresh stream, or rooms of other lengths, are answered 10.
use Rattle.std.specs.Prelude.{ℕ, ◌+◌, ◌-◌, ◌*◌, max, Bool, true, not, ◌&&◌, ◌||◌, List, [], ◌∷◌, take, eqb, leb, ltb}
use Rattle.loops.specs.Lists.{any_of, all_true, any_true, pairwise}
use Rattle.loops.specs.Refusal.{first_of}
use Rattle.loops.specs.Ring.{rows_in}
use Rattle.definition.specs.declared.IvectorInfo.{IvectorInfo}
use Rattle.definition.specs.declared.Dimensions.{Dimensions}
use Rattle.definition.specs.declared.TableLengths.{TableLengths}
use Rattle.definition.specs.declared.RingLengths.{RingLengths}
use Rattle.definition.specs.declared.EstimateLengths.{EstimateLengths}
use Rattle.definition.specs.declared.RoomLengths.{RoomLengths}
use Rattle.definition.specs.declared.IvectorStream.{IvectorStream}
use Rattle.definition.specs.Options.{max_window, max_frames, options_in_range, dims_in_range, dims_agree}
use Rattle.definition.specs.Kaldi.{triangle}
use Rattle.definition.specs.Model.{table_lengths, tables_fit}
use Rattle.definition.specs.Machine.{frames_held, rows_held, waiting_room}

-- ---- a model's record

-- it meets none of 1, 4 and 5
unfoldable pub record_sound : IvectorInfo → Bool
record_sound i = all_true (options_in_range i.opts ∷ dims_in_range i.dims ∷ dims_agree i.opts i.dims ∷ [])

-- it could come from a load: its tables have room, too
unfoldable pub info_sound : IvectorInfo → Bool
info_sound i = record_sound i && tables_fit i.opts i.dims i.tables

unfoldable pub same_tables : TableLengths → TableLengths → Bool
same_tables a b = pairwise eqb (table_lengths a) (table_lengths b)

-- ---- a stream's rooms

-- scratch of a fetch: the weighted features of each Gaussian, or the factor of the solve
unfoldable pub stream_scratch : Dimensions → ℕ
stream_scratch d = max (d.num_gauss * d.feat_dim) (d.ivector_dim * d.ivector_dim)

abbrev pub ring_lengths : RingLengths → List ℕ
ring_lengths z = z.frames ∷ z.rows ∷ z.waiting_frames ∷ z.waiting_weights ∷ []

abbrev pub estimate_lengths : EstimateLengths → List ℕ
estimate_lengths z = z.cmvn_stats ∷ z.linear ∷ z.quadratic ∷ z.current ∷ z.scratch ∷ []

-- how many numbers the rooms of a fetch keep
abbrev pub estimate_sizes : Dimensions → List ℕ
estimate_sizes d = (d.base_dim + 1) ∷ d.ivector_dim ∷ triangle d.ivector_dim ∷ d.ivector_dim ∷ stream_scratch d ∷ []

-- where this fails: refusal 8
unfoldable pub rooms_fit : Dimensions → RoomLengths → Bool
rooms_fit d z =
    all_true (leb 1 (rows_in z.rings.frames d.base_dim)
    ∷ leb 2 (rows_in z.rings.rows d.base_dim)
    ∷ pairwise leb (estimate_sizes d) (estimate_lengths z.estimate) ∷ [])

-- "a fresh stream meets 10 before 8": lengths t of the lent tables, z of the lent rooms
unfoldable pub new_refusal : IvectorInfo → TableLengths → RoomLengths → ℕ
new_refusal i t z =
    first_of
    ((not (same_tables t i.tables), 10)
    ∷ (not (record_sound i), 10)
    ∷ (not (tables_fit i.opts i.dims i.tables), 8)
    ∷ (not (rooms_fit i.dims z), 8) ∷ [])

-- ---- 10

-- no frame is below the one in front of it, nor the first below n
unfoldable pub rising : ℕ → List ℕ → Bool
rising n [] = true
rising n (f ∷ fs) = leb n f && rising f fs

-- what makes a record broken, the waiting frames lying in the room `waiting`; the mark above the floor less left context is request 8's,
-- the windows are request 12's
unfoldable pub breaks : IvectorStream → List ℕ → List Bool
breaks s waiting =
    let o = s.info.opts in
    let d = s.info.dims in
    let held = take s.waiting waiting in
    not (info_sound s.info)
    ∷ not (rooms_fit d s.lengths)
    ∷ ltb max_frames s.accepted
    ∷ ltb s.accepted s.num_frames_stats
    ∷ ltb (s.num_frames_stats - o.left_context) s.mark
    ∷ ltb (s.floor - o.left_context) s.mark
    ∷ (eqb s.window 0 || ltb s.longest s.window || ltb max_window s.longest)
    ∷ ltb (rows_in s.lengths.rings.frames d.base_dim) (frames_held s.accepted s.mark)
    ∷ ltb (rows_in s.lengths.rings.rows d.base_dim) (rows_held s.longest s.accepted s.mark)
    ∷ ltb (waiting_room s.lengths.rings) s.waiting
    ∷ not (rising 0 held)
    ∷ any_of (λ f. ltb (f - o.left_context) s.mark) held ∷ []

unfoldable pub is_foreign : IvectorStream → List ℕ → Bool
is_foreign s waiting = any_true (breaks s waiting)

-- lent lengths are those of the record
unfoldable pub same_rings : RingLengths → RingLengths → Bool
same_rings a b = pairwise eqb (ring_lengths a) (ring_lengths b)

unfoldable pub same_rooms : RoomLengths → RoomLengths → Bool
same_rooms a b = same_rings a.rings b.rings && pairwise eqb (estimate_lengths a.estimate) (estimate_lengths b.estimate)

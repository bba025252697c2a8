-- "Silence table": `SilenceWeighting`, and refusals 9, 10, 23 and 24. Place k of a table is decoder frame k.
use Rattle.std.specs.Prelude.{ℕ, suc, ◌+◌, ◌-◌, ◌*◌, ◌/◌, min, max, Bool, true, false, not, ◌&&◌, ◌||◌, length, get_or, eqb, leb, ltb, ℤ, pos, negsuc, Float, if◌then◌else◌, Result, Ok, Err}
use mathlib.Core.List.{List, [], ◌∷◌, map, foldl}
use Rattle.std.specs.Float.{nan}
use Rattle.std.specs.Float.Ieee.{ne}
use Rattle.std.specs.Float.Ieee.Scale.{finite}
use Rattle.loops.specs.Loop.{iter}
use Rattle.loops.specs.Lists.{build, flat, any_of, over}
use Rattle.loops.specs.Refusal.{first_of, taken}
use Rattle.floats.specs.Operators.{◌-₃₂◌, zero₃₂, one₃₂}
use Rattle.definition.specs.declared.InputFrame.{InputFrame}
use Rattle.definition.specs.declared.DecoderFrame.{DecoderFrame}
use Rattle.definition.specs.declared.SilenceWeighting.{SilenceWeighting}
use Rattle.definition.specs.declared.SilenceAnswer.{SilenceAnswer}
use Rattle.definition.specs.Options.{within, max_frames}
use Rattle.definition.specs.Changes.{Change}

-- a number of input frames, and of decoder frames
abbrev pub input : ℕ → InputFrame
input n = record { 0 = n }

abbrev pub decoder : ℕ → DecoderFrame
decoder n = record { 0 = n }

pub record FrameInfo : Type 0 where
  pub known : Bool
  pub is_silence : Bool
  pub current_weight : Float

abbrev pub Table : Type 0
Table = List FrameInfo

-- frame k. Past the table's end a frame is unknown and of weight 0, as those that a table grows by
unfoldable pub info_at : Table → ℕ → FrameInfo
info_at t k = get_or t k (record { known = false; is_silence = false; current_weight = zero₃₂ })

-- the three rooms that a table is lent
pub record TableRooms : Type 0 where
  pub known : List Bool
  pub is_silence : List Bool
  pub current_weight : List Float

abbrev pub table_rooms : List Bool → List Bool → List Float → TableRooms
table_rooms ks ss ws = record { known = ks; is_silence = ss; current_weight = ws }

-- the table of n frames in them, and the rooms with a table at their fronts
unfoldable pub table_in : DecoderFrame → TableRooms → Table
table_in n z = build n.0 (λ k. record { known = get_or z.known k false; is_silence = get_or z.is_silence k false; current_weight = get_or z.current_weight k nan })

abbrev pub over_rooms : Table → TableRooms → TableRooms
over_rooms t z =
    table_rooms (over (map (λ f. f.known) t) z.known) (over (map (λ f. f.is_silence) t) z.is_silence) (over (map (λ f. f.current_weight) t) z.current_weight)

-- ---- `compute_current_traceback`

pub record PhoneSegment : Type 0 where
  pub phone : ℤ
  pub start : DecoderFrame
  pub stop : DecoderFrame

-- segments as three lists
unfoldable pub segments : List ℤ → List ℕ → List ℕ → List PhoneSegment
segments ps starts stops = build (length ps) (λ i. record { phone = get_or ps i (pos 0); start = decoder (get_or starts i 0); stop = decoder (get_or stops i 0) })

unfoldable pub same_phone : ℤ → ℤ → Bool
same_phone (pos m) (pos n) = eqb m n
same_phone (pos m) (negsuc n) = false
same_phone (negsuc m) (pos n) = false
same_phone (negsuc m) (negsuc n) = eqb m n

-- what a segment makes of frame k, n being decoded
unfoldable pub marked : List ℤ → DecoderFrame → ℕ → FrameInfo → PhoneSegment → FrameInfo
marked phones n k f g =
    if leb g.start.0 k && ltb k (min g.stop.0 n.0)
    then record { known = true; is_silence = any_of (same_phone g.phone) phones; current_weight = f.current_weight }
    else f

-- a later segment stands over an earlier one
unfoldable pub traced : List ℤ → DecoderFrame → List PhoneSegment → Table → Table
traced phones n gs t = build (max (length t) n.0) (λ k. foldl (marked phones n k) (info_at t k) gs)

-- ---- `get_delta_weights`, with silence weight w

-- where the walk begins: the old length less 100
abbrev pub begin : Table → ℕ
begin t = length t - 100

-- the weight of the frame before that, or the silence weight at frame 0
unfoldable pub before : Float → Table → Float
before w t = if eqb (begin t) 0 then w else (info_at t (begin t - 1)).current_weight

-- the weight of a frame, p being that of the frame before it; a walk whose first frame is unknown is blind
unfoldable pub carried : Float → Bool → FrameInfo → Float → Float
carried w blind f p = if blind then p else if f.known then (if f.is_silence then w else one₃₂) else p

-- the weight that n frames of the walk leave
unfoldable pub walked : Float → Table → ℕ → Float
walked w t n = iter n (λ i p. carried w (not (info_at t (begin t)).known) (info_at t (begin t + i)) p) (before w t)

-- the table of n frames after the walk
unfoldable pub weighted : Float → DecoderFrame → Table → Table
weighted w n t = build n.0 (λ k.
    let f = info_at t k in
    record { known = f.known; is_silence = f.is_silence; current_weight = if ltb k (begin t) then f.current_weight else walked w t (suc (k - begin t)) })

-- the decoder frames that the input frames from `first` up to `ready` reach into, and input frame j of decoder frame k, frame 0 beginning at `first`
unfoldable pub decoder_frames : ℕ → InputFrame → InputFrame → DecoderFrame
decoder_frames subsampling ready first = decoder ((ready.0 - first.0 + (subsampling - 1)) / subsampling)

unfoldable pub input_frame : ℕ → InputFrame → DecoderFrame → ℕ → InputFrame
input_frame subsampling first k j = input (first.0 + k.0 * subsampling + j)

-- the changes to a table of n frames: at the frames whose weight is another, and at the last
unfoldable pub delta_weights : Float → ℕ → InputFrame → DecoderFrame → Table → List Change
delta_weights w subsampling first n t = flat (n.0 - begin t) (λ i.
    let k = begin t + i in
    let diff = walked w t (suc i) -₃₂ (info_at t k).current_weight in
    if ne diff zero₃₂ || eqb (k + 1) n.0 then build subsampling (λ j. ((input_frame subsampling first (decoder k) j).0, diff)) else [])

-- ---- the calls

-- 9: the number of phones, the weight, the subsampling
unfoldable pub settings_refusal : ℕ → Float → ℕ → ℕ
settings_refusal phones w subsampling = first_of ((ltb 64 phones, 9) ∷ (not (within 1 16 subsampling), 9) ∷ (not (finite w), 9) ∷ [])

-- `SilenceWeighting::new`, for rooms of n places
unfoldable pub new_table : ℕ → Float → ℕ → ℕ → Result SilenceWeighting ℕ
new_table phones w subsampling n =
    let r = settings_refusal phones w subsampling in
    taken r (Ok (record { silence_weight = w; subsampling = subsampling; phones = phones; table = n; length = decoder 0 })) (Err r)

unfoldable pub active : SilenceWeighting → Bool
active s = not (eqb s.phones 0) && ne s.silence_weight one₃₂

-- places of a table, at most 1,000,000
abbrev pub places : SilenceWeighting → ℕ
places s = min s.table 1000000

-- 10: the record, and the lengths of the three rooms
unfoldable pub table_broken : SilenceWeighting → ℕ → ℕ → ℕ → Bool
table_broken s ks ss ws =
    not (eqb ks s.table)
    || not (eqb ss s.table)
    || not (eqb ws s.table)
    || not (eqb (settings_refusal s.phones s.silence_weight s.subsampling) 0)
    || ltb (places s) s.length.0

-- p: phones lent; n, a, e: the lengths of the segments' lists
unfoldable pub traceback_tests : SilenceWeighting → ℕ → DecoderFrame → ℕ → ℕ → ℕ → List (Bool × ℕ)
traceback_tests s p frames n a e = (not (eqb p s.phones), 10) ∷ (ltb (places s) frames.0, 23) ∷ (not (eqb n a && eqb n e), 24) ∷ []

abbrev pub wanted : SilenceWeighting → InputFrame → InputFrame → DecoderFrame
wanted s ready first = decoder_frames s.subsampling ready first

-- the frames that a table has afterwards
abbrev pub size_after : SilenceWeighting → InputFrame → InputFrame → Table → DecoderFrame
size_after s ready first t = decoder (max (length t) (wanted s ready first).0)

-- nothing is asked for where ready is not past first
unfoldable pub asked : SilenceWeighting → InputFrame → InputFrame → Table → List Change
asked s ready first t = if leb ready.0 first.0 then [] else delta_weights s.silence_weight s.subsampling first (size_after s ready first t) t

unfoldable pub asked_table : SilenceWeighting → InputFrame → InputFrame → Table → Table
asked_table s ready first t = if leb ready.0 first.0 then t else weighted s.silence_weight (size_after s ready first t) t

-- f, w: the lengths of the answer's two lists
unfoldable pub delta_tests : SilenceWeighting → InputFrame → InputFrame → Table → ℕ → ℕ → List (Bool × ℕ)
delta_tests s ready first t f w =
    (ltb max_frames ready.0 || ltb max_frames first.0 || ltb (places s) (wanted s ready first).0, 23)
    ∷ (ltb (min f w) (length (asked s ready first t)), 24) ∷ []

-- what a call does: its refusal number, and where that is 0 the table that it leaves and the changes that it gives
pub record TableStep : Type 0 where
  pub refusal : ℕ
  pub table : Table
  pub changes : List Change

-- 10 before the call's own tests
abbrev pub table_step : SilenceWeighting → TableRooms → List (Bool × ℕ) → Table → List Change → TableStep
table_step s z tests t cs =
    record { refusal = first_of ((table_broken s (length z.known) (length z.is_silence) (length z.current_weight), 10) ∷ tests); table = t; changes = cs }

unfoldable pub compute_current_traceback : SilenceWeighting → TableRooms → List ℤ → List ℤ → List ℕ → List ℕ → DecoderFrame → TableStep
compute_current_traceback s z phones ps starts stops n =
    table_step s z (traceback_tests s (length phones) n (length ps) (length starts) (length stops)) (traced phones n (segments ps starts stops) (table_in s.length z)) []

unfoldable pub get_delta_weights : SilenceWeighting → TableRooms → InputFrame → InputFrame → ℕ → ℕ → TableStep
get_delta_weights s z ready first f w =
    let t = table_in s.length z in
    table_step s z (delta_tests s ready first t f w) (asked_table s ready first t) (asked s ready first t)

-- the answer to a call that would give n changes and leave a table of m frames
unfoldable pub silence_answer : ℕ → SilenceWeighting → ℕ → ℕ → SilenceAnswer
silence_answer r s n m =
    let s' : SilenceWeighting = record { silence_weight = s.silence_weight; subsampling = s.subsampling; phones = s.phones; table = s.table; length = decoder m } in
    record { refusal = r; changes = taken r n 0; silence = taken r s' s }

-- what is returned, the rooms and the answer's two lists afterwards
pub record TableCall : Type 0 where
  pub answer : SilenceAnswer
  pub rooms : TableRooms
  pub frames : List ℕ
  pub weights : List Float

abbrev pub table_call : SilenceAnswer → TableRooms → List ℕ → List Float → TableCall
table_call a z fs ws = record { answer = a; rooms = z; frames = fs; weights = ws }

-- of a step on record s, rooms z and two lists; a traceback is lent none
abbrev pub table_done : SilenceWeighting → TableRooms → List ℕ → List Float → TableStep → TableCall
table_done s z fs ws x =
    let r = x.refusal in
    let cs = x.changes in
    table_call (silence_answer r s (length cs) (length x.table)) (taken r (over_rooms x.table z) z)
    (taken r (over (map (λ c. c.0) cs) fs) fs) (taken r (over (map (λ c. c.1) cs) ws) ws)

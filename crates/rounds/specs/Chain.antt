-- Calls on a silence table chain: what the contracts of a list of them say, what the definition answers to the list, and that they are the same.
use Rattle.std.specs.Prelude.{◌≡◌, ℕ, List, [], ◌∷◌, map, length, ℤ, Float, Ok}
use Rattle.loops.specs.Lists.{over}
use Rattle.loops.specs.Refusal.{first_of, taken}
use Rattle.definition.specs.declared.InputFrame.{InputFrame}
use Rattle.definition.specs.declared.DecoderFrame.{DecoderFrame}
use Rattle.definition.specs.declared.SilenceWeighting.{SilenceWeighting}
use Rattle.definition.specs.declared.SilenceAnswer.{SilenceAnswer}
use Rattle.definition.specs.Silence.{TableRooms, Table, segments, traced, new_table, traceback_tests, asked, asked_table, delta_tests, compute_current_traceback, get_delta_weights, table_call, table_done}

-- ---- the table machine: the definition run on the table alone

-- a call, with what it is lent besides the table: the silence phones, the segments' phones, starts and ends, and the frames decoded; or
-- the frames ready, the first, and the answer's two lists
pub data Call : Type 0 where
  traceback : List ℤ → List ℤ → List ℕ → List ℕ → DecoderFrame → Call
  deltas : InputFrame → InputFrame → List ℕ → List Float → Call

-- what it answers: its refusal, how many changes it gives, and its two lists afterwards
pub record Answer : Type 0 where
  pub refusal : ℕ
  pub changes : ℕ
  pub frames : List ℕ
  pub weights : List Float

-- the refusal, with no record and no room that could break: 10 only for another number of silence phones
abbrev pub number : SilenceWeighting → Table → Call → ℕ
number s t (traceback phones ps starts ends decoded) = first_of (traceback_tests s (length phones) decoded (length ps) (length starts) (length ends))
number s t (deltas ready first fs os) = first_of (delta_tests s ready first t (length fs) (length os))

-- the table that a call makes, where it is taken
abbrev pub made : SilenceWeighting → Table → Call → Table
made s t (traceback phones ps starts ends decoded) = traced phones decoded (segments ps starts ends) t
made s t (deltas ready first fs os) = asked_table s ready first t

abbrev pub after : SilenceWeighting → Table → Call → Table
after s t c = taken (number s t c) (made s t c) t

-- the answer of a call whose refusal is r
abbrev pub saying : ℕ → SilenceWeighting → Table → Call → Answer
saying r s t (traceback phones ps starts ends decoded) = record { refusal = r; changes = 0; frames = []; weights = [] }
saying r s t (deltas ready first fs os) =
    let cs = asked s ready first t in
    record { refusal = r; changes = taken r (length cs) 0; frames = taken r (over (map (λ x. x.0) cs) fs) fs; weights = taken r (over (map (λ x. x.1) cs) os) os }

abbrev pub said : SilenceWeighting → Table → Call → Answer
said s t c = saying (number s t c) s t c

abbrev pub answers : SilenceWeighting → Table → List Call → List Answer
answers s t [] = []
answers s t (c ∷ cs) = said s t c ∷ answers s (after s t c) cs

-- ---- the calls as their contracts give them, each on the record and the three rooms as the last one left them

abbrev pub with_lists : SilenceAnswer → List ℕ → List Float → Answer
with_lists r fs os = record { refusal = r.refusal; changes = r.changes; frames = fs; weights = os }

pub data Run : SilenceWeighting → TableRooms → List Call → List Answer → Type 0 where
  none : {s : SilenceWeighting} {z : TableRooms} → Run s z [] []
  recorded : {s : SilenceWeighting} {z z' : TableRooms} {phones ps : List ℤ} {starts ends : List ℕ} {n : DecoderFrame} {r : SilenceAnswer} {cs : List Call} {as' : List Answer}
      → table_call r z' [] [] ≡ table_done s z [] [] (compute_current_traceback s z phones ps starts ends n) → Run r.silence z' cs as'
      → Run s z (traceback phones ps starts ends n ∷ cs) (with_lists r [] [] ∷ as')
  weighs : {s : SilenceWeighting} {z z' : TableRooms} {ready first : InputFrame} {fs fs' : List ℕ} {os os' : List Float} {r : SilenceAnswer} {cs : List Call} {as' : List Answer}
      → table_call r z' fs' os' ≡ table_done s z fs os (get_delta_weights s z ready first (length fs) (length os)) → Run r.silence z' cs as'
      → Run s z (deltas ready first fs os ∷ cs) (with_lists r fs' os' ∷ as')

-- From a table that was made without refusal, in rooms of its length with whatever in them: every list of calls is answered as the
-- definition answers it from the empty table. So 10 comes only for another number of silence phones.
abbrev pub Chained : Type 0
Chained =
    (phones : ℕ) (w : Float) (subsampling n : ℕ) (s : SilenceWeighting) (z : TableRooms) (cs : List Call) (as' : List Answer)
    → new_table phones w subsampling n ≡ Ok s
    → length z.known ≡ n
    → length z.is_silence ≡ n
    → length z.current_weight ≡ n
    → Run s z cs as'
    → as' ≡ answers s [] cs

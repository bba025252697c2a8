-- A load to try a stream with: the generator, the calls that it draws, and the lists that it fills.
use Rattle.std.specs.Prelude.{ℕ, ◌+◌, ◌*◌, ◌/◌, ◌%◌, ◌^◌, Bool, List, [], ◌∷◌, eqb, ltb, pos, Float, if◌then◌else◌}
use Rattle.std.specs.Int.Bits.{bit_xor}
use Rattle.std.specs.Float.{binary32}
use Rattle.std.specs.Float.Ieee.{of_int}
use Rattle.loops.specs.Loop.{iter}
use Rattle.loops.specs.Lists.{build, flat, over}
use Rattle.loops.specs.Refusal.{first_of, taken}
use Rattle.floats.specs.Operators.{◌-₃₂◌, ◌/₃₂◌, f32, zero₃₂}
use Rattle.definition.specs.Machine.{Call, push, finish, change, forget, fetch}

-- 32 bits of state, not 0; a result is the new state
unfoldable pub draw : ℕ → ℕ
draw s =
    let a = bit_xor s ((s * 2 ^ 13) % 2 ^ 32) in
    let b = bit_xor a (a / 2 ^ 17) in
    bit_xor b ((b * 2 ^ 5) % 2 ^ 32)

-- the state after n draws
unfoldable pub draws : ℕ → ℕ → ℕ
draws n s = iter n (λ i. draw) s

-- a number of a frame, or a weight: (result % 2,001 − 1,000) / 8, each step of which is exact in f32
unfoldable pub number_of : ℕ → Float
number_of r = (of_int binary32 (pos (r % 2001)) -₃₂ f32 0x447a_0000) /₃₂ f32 0x4100_0000

-- ---- a call of kind k, s being the state after its kind; frames are dim wide, and p pushes were drawn before, taken or not

-- the numbers of a push
unfoldable pub numbers_of : ℕ → ℕ → ℕ → List Float
numbers_of dim k s = if eqb k 0 then build dim (λ i. number_of (draws (i + 1) s)) else []

-- the frame of a change, a forget and a fetch
unfoldable pub frame_of : ℕ → ℕ → ℕ → ℕ
frame_of k s p = if eqb k 2 then draw s % (p + 16) else (if eqb k 3 then draw s % (p + 1) else (if eqb k 4 then draw s % (p + 1) else 0))

-- the weight of a change, drawn after its frame
unfoldable pub weight_of : ℕ → ℕ → Float
weight_of k s = if eqb k 2 then number_of (draws 2 s) else zero₃₂

-- the state after it
unfoldable pub state_after : ℕ → ℕ → ℕ → ℕ
state_after dim k s = if eqb k 0 then draws dim s else (if eqb k 1 then s else (if eqb k 2 then draws 2 s else draw s))

-- the call: a fetch has an output of one number
unfoldable pub call_of : ℕ → List Float → ℕ → Float → Call
call_of k x f w =
    if eqb k 0 then push x else (if eqb k 1 then finish else (if eqb k 2 then change (f ∷ []) (w ∷ []) else (if eqb k 3 then forget f else fetch f 1)))

-- ---- call i of those that a seed gives

-- between two calls: the state, and how many pushes were drawn
pub record Drawing : Type 0 where
  pub state : ℕ
  pub pushes : ℕ

abbrev pub drawing : ℕ → ℕ → Drawing
drawing s p = record { state = s; pushes = p }

abbrev pub kind_in : Drawing → ℕ
kind_in d = draw d.state % 5

abbrev pub call_in : ℕ → Drawing → Call
call_in dim d = let s = draw d.state in let k = kind_in d in call_of k (numbers_of dim k s) (frame_of k s d.pushes) (weight_of k s)

unfoldable pub drawn_on : ℕ → Drawing → Drawing
drawn_on dim d = drawing (state_after dim (kind_in d) (draw d.state)) (d.pushes + (if eqb (kind_in d) 0 then 1 else 0))

module _ (dim seed : ℕ) where
  unfoldable pub drawing_at : ℕ → Drawing
  drawing_at i = iter i (λ k. drawn_on dim) (drawing seed 0)

  abbrev pub kind_at : ℕ → ℕ
  kind_at i = kind_in (drawing_at i)

  abbrev pub numbers_at : ℕ → List Float
  numbers_at i = let d = drawing_at i in numbers_of dim (kind_in d) (draw d.state)

  abbrev pub frame_at : ℕ → ℕ
  frame_at i = let d = drawing_at i in frame_of (kind_in d) (draw d.state) d.pushes

  abbrev pub weight_at : ℕ → Float
  weight_at i = let d = drawing_at i in weight_of (kind_in d) (draw d.state)

  unfoldable pub drawn_calls : ℕ → List Call
  drawn_calls count = build count (λ i. call_in dim (drawing_at i))

-- ---- the lists that are filled

-- the frames of the pushes, one after the other; and of each call its kind, its frame (0 of a push and a finish) and its weight (0 but of a change)
pub record DrawnLists : Type 0 where
  pub frames : List Float
  pub kinds : List ℕ
  pub named : List ℕ
  pub weights : List Float

abbrev pub drawn_lists : List Float → List ℕ → List ℕ → List Float → DrawnLists
drawn_lists x k f w = record { frames = x; kinds = k; named = f; weights = w }

-- in lent lists: the places past their ends keep their values
unfoldable pub filled : ℕ → ℕ → ℕ → DrawnLists → DrawnLists
filled dim seed count l =
    drawn_lists (over (flat count (numbers_at dim seed)) l.frames) (over (build count (kind_at dim seed)) l.kinds) (over (build count (frame_at dim seed)) l.named)
    (over (build count (weight_at dim seed)) l.weights)

-- 33: a seed of 0 or above 32 bits, a base dimension outside 1 .. 64, a count of calls outside 1 .. 10,000
abbrev pub size_tests : ℕ → ℕ → ℕ → List (Bool × ℕ)
size_tests seed dim count = (eqb seed 0, 33) ∷ (ltb 4294967295 seed, 33) ∷ (eqb dim 0, 33) ∷ (ltb 64 dim, 33) ∷ (eqb count 0, 33) ∷ (ltb 10000 count, 33) ∷ []

unfoldable pub size_refusal : ℕ → ℕ → ℕ → ℕ
size_refusal seed dim count = first_of (size_tests seed dim count)

-- 33 too: lent lists, of these lengths, that are too short for what is drawn
abbrev pub list_tests : ℕ → ℕ → ℕ → ℕ → ℕ → ℕ → ℕ → List (Bool × ℕ)
list_tests seed dim count frames kinds named weights =
    (ltb frames ((drawing_at dim seed count).pushes * dim), 33) ∷ (ltb kinds count, 33) ∷ (ltb named count, 33) ∷ (ltb weights count, 33) ∷ []

unfoldable pub list_refusal : ℕ → ℕ → ℕ → ℕ → ℕ → ℕ → ℕ → ℕ
list_refusal seed dim count frames kinds named weights = first_of (list_tests seed dim count frames kinds named weights)

unfoldable pub fill_refusal : ℕ → ℕ → ℕ → ℕ → ℕ → ℕ → ℕ → ℕ
fill_refusal seed dim count frames kinds named weights =
    let r = size_refusal seed dim count in
    taken r (list_refusal seed dim count frames kinds named weights) r

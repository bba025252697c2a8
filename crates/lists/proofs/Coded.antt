-- `every-list`: every list of calls has slices that give it. Call by call: what a call is lent stands behind what the calls before it were lent, so
-- also its output, and its four numbers say where. By induction over the list, with what stands before.
use mathlib.Core.Path.{◌≡◌, refl, ap, ap₂, ◌∙◌}
use mathlib.Core.Bool.{true}
use mathlib.Core.List.{List, [], ◌∷◌, ◌++◌, map, append_assoc}
use Prim.Native.Nat.{ℕ, suc, ◌+◌, ◌-◌, ◌*◌, ◌≤◌, min}
use native.Mathlib.Omega.{arith}
use lib.ListN.{length, get_or, length-append}
use lib.Seq.{take-append_seam, drop-append_seam}
use lib.Dec.{ltb}
use lib.Ieee.{Float}
use Rattle.loops.specs.Lists.{build, all_of}
use Rattle.loops.proofs.Build.{build_ext}
use Rattle.definition.specs.Machine.{Call, push, finish, change, forget, set_window, fetch}
use Rattle.lists.specs.Listed.{part, of_kind, call_at, calls}
use Rattle.lists.specs.Coded.{EveryList}

-- ---- the slices of a list

abbrev kind_of : Call → ℕ
kind_of (push x) = 0
kind_of finish = 1
kind_of (change fs ws) = 2
kind_of (forget f) = 3
kind_of (set_window w) = 5
kind_of (fetch f m) = 4

-- what a call is lent: frames, samples, an output's length
abbrev frames_for : Call → List ℕ
frames_for (push x) = []
frames_for finish = []
frames_for (change fs ws) = fs
frames_for (forget f) = []
frames_for (set_window w) = []
frames_for (fetch f m) = []

abbrev samples_for : Call → List Float
samples_for (push x) = x
samples_for finish = []
samples_for (change fs ws) = ws
samples_for (forget f) = []
samples_for (set_window w) = []
samples_for (fetch f m) = []

abbrev out_for : Call → ℕ
out_for (push x) = 0
out_for finish = 0
out_for (change fs ws) = 0
out_for (forget f) = 0
out_for (set_window w) = 0
out_for (fetch f m) = m

-- its numbers, where l frames, s samples and outputs of o numbers stand before
abbrev number_for : ℕ → ℕ → ℕ → Call → ℕ → ℕ
number_for l s o (push x) k = get_or (s ∷ (s + length x) ∷ 0 ∷ 0 ∷ []) k 0
number_for l s o finish k = 0
number_for l s o (change fs ws) k = get_or (l ∷ (l + length fs) ∷ s ∷ (s + length ws) ∷ []) k 0
number_for l s o (forget f) k = get_or (f ∷ 0 ∷ 0 ∷ 0 ∷ []) k 0
number_for l s o (set_window w) k = get_or (w ∷ 0 ∷ 0 ∷ 0 ∷ []) k 0
number_for l s o (fetch f m) k = get_or (f ∷ o ∷ (o + m) ∷ 0 ∷ []) k 0

abbrev all_frames : List Call → List ℕ
all_frames [] = []
all_frames (c ∷ cs) = frames_for c ++ all_frames cs

abbrev all_samples : List Call → List Float
all_samples [] = []
all_samples (c ∷ cs) = samples_for c ++ all_samples cs

abbrev all_outs : List Call → ℕ
all_outs [] = 0
all_outs (c ∷ cs) = out_for c + all_outs cs

abbrev all_numbers : ℕ → ℕ → ℕ → List Call → List ℕ
all_numbers l s o [] = []
all_numbers l s o (c ∷ cs) =
    let k : ℕ → ℕ = number_for l s o c in
    k 0 ∷ k 1 ∷ k 2 ∷ k 3 ∷ all_numbers (l + length (frames_for c)) (s + length (samples_for c)) (o + out_for c) cs

-- ---- the first call of a list, and the others

module _ (k : ℕ) (ks : List ℕ) (a b c d : ℕ) (rest lists : List ℕ) (samples : List Float) (n : ℕ) where
  abbrev row : List ℕ
  row = a ∷ b ∷ c ∷ d ∷ rest

  first : call_at (k ∷ ks) row lists samples n 0 ≡ of_kind k a (part a b samples) (part a b lists) (part c d samples) (min (c - b) (n - b))
  unfolding call_at
  first = refl

  past : (i j : ℕ) → get_or row (suc i * 4 + j) 0 ≡ get_or rest (i * 4 + j) 0
  past i j = let e : suc i * 4 + j ≡ suc (suc (suc (suc (i * 4 + j)))) = omega arith in ap (λ (m : ℕ). get_or row m 0) e

  past_first : (i : ℕ) → get_or row (suc i * 4) 0 ≡ get_or rest (i * 4) 0
  past_first i = let e : suc i * 4 ≡ suc (suc (suc (suc (i * 4)))) = omega arith in ap (λ (m : ℕ). get_or row m 0) e

  next : (i : ℕ) → call_at (k ∷ ks) row lists samples n (suc i) ≡ call_at ks rest lists samples n i
  unfolding call_at
  next i = rw (past_first i, past i 1, past i 2, past i 3)

  calls_first : calls (k ∷ ks) row lists samples n ≡ call_at (k ∷ ks) row lists samples n 0 ∷ calls ks rest lists samples n
  unfolding calls build
  calls_first = ap (λ (cs : List Call). call_at (k ∷ ks) row lists samples n 0 ∷ cs) (build_ext (length ks) _ _ (λ i h. next i))

-- ---- what a call is lent is there

part-there : {A : Type 0} (p x rest : List A) → part (length p) (length p + length x) (p ++ (x ++ rest)) ≡ x
unfolding part
part-there p x rest =
    let e : length p + length x - length p ≡ length x = omega arith in
    rw (e, drop-append_seam p (x ++ rest)) (take-append_seam x rest)

out_there : (o m n : ℕ) → o + m ≤ n → min (o + m - o) (n - o) ≡ m
out_there o m n h = omega arith

module _ (ls : List ℕ) (ss : List Float) (o n : ℕ) (fs : List ℕ) (xs : List Float) where
  there : (c : Call) → o + out_for c ≤ n → let k : ℕ → ℕ = number_for (length ls) (length ss) o c in
      let lists = ls ++ (frames_for c ++ fs) in
      let samples = ss ++ (samples_for c ++ xs) in
      of_kind (kind_of c) (k 0) (part (k 0) (k 1) samples) (part (k 0) (k 1) lists) (part (k 2) (k 3) samples) (min (k 2 - k 1) (n - k 1)) ≡ c
  unfolding of_kind
  there (push x) h = ap push (part-there ss x xs)
  there finish h = refl
  there (change gs ws) h = rw (part-there ls gs fs, part-there ss ws xs)
  there (forget f) h = refl
  there (set_window w) h = refl
  there (fetch f m) h = ap (fetch f) (out_there o m n h)

-- ---- the whole list

decoded : (cs : List Call) (ls : List ℕ) (ss : List Float) (o n : ℕ) → o + all_outs cs ≤ n
    → calls (map kind_of cs) (all_numbers (length ls) (length ss) o cs) (ls ++ all_frames cs) (ss ++ all_samples cs) n ≡ cs
unfolding calls build
decoded [] ls ss o n h = refl
decoded (c ∷ cs) ls ss o n h =
    let k : ℕ → ℕ = number_for (length ls) (length ss) o c in
    let rest : List ℕ = all_numbers (length ls + length (frames_for c)) (length ss + length (samples_for c)) (o + out_for c) cs in
    let lists : List ℕ = ls ++ (frames_for c ++ all_frames cs) in
    let samples : List Float = ss ++ (samples_for c ++ all_samples cs) in
    let e = first (kind_of c) (map kind_of cs) (k 0) (k 1) (k 2) (k 3) rest lists samples n ∙ there ls ss o n (all_frames cs) (all_samples cs) c (omega arith) in
    let d =
    rw (length-append ls (frames_for c), length-append ss (samples_for c), append_assoc ls (frames_for c) (all_frames cs), append_assoc ss (samples_for c) (all_samples cs))
    at (decoded cs (ls ++ frames_for c) (ss ++ samples_for c) (o + out_for c) n (omega arith)) in
    calls_first (kind_of c) (map kind_of cs) (k 0) (k 1) (k 2) (k 3) rest lists samples n ∙ ap₂ (λ (c : Call) (cs : List Call). c ∷ cs) e d

sized : (cs : List Call) (l s o : ℕ) → length (all_numbers l s o cs) ≡ 4 * length (map kind_of cs)
sized [] l s o = refl
sized (c ∷ cs) l s o = omega (arith, sized cs (l + length (frames_for c)) (s + length (samples_for c)) (o + out_for c))

kind_small : (c : Call) → ltb (kind_of c) 6 ≡ true
kind_small (push x) = refl
kind_small finish = refl
kind_small (change fs ws) = refl
kind_small (forget f) = refl
kind_small (set_window w) = refl
kind_small (fetch f m) = refl

kinds_small : (cs : List Call) → all_of (λ k. ltb k 6) (map kind_of cs) ≡ true
unfolding all_of
kinds_small [] = refl
kinds_small (c ∷ cs) = rw kind_small (kinds_small cs)

pub every-list : EveryList
every-list cs =
    record {
      kinds = map kind_of cs;
      numbers = all_numbers 0 0 0 cs;
      lists = all_frames cs;
      samples = all_samples cs;
      n = all_outs cs;
      decoded = decoded cs [] [] 0 (all_outs cs) (omega arith);
      sized = sized cs 0 0 0;
      kinds_small = kinds_small cs;
    }

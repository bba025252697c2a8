-- Any call, refused or not, keeps `Inv` (`moved_on`) and is answered alike (`reply_same`); so is any list, by induction (`keeps_from`, `inv_after`).
-- The machine's history is what the pushes taken brought (`history_is`).
use mathlib.Core.Path.{◌≡◌, refl, sym, ap, ap₂, subst, ◌∙◌}
use Prim.Native.Nat.{ℕ, zero, suc}
use native.Mathlib.Omega.{arith}
use mathlib.Core.List.{List, [], ◌∷◌, ◌++◌, append-nil, append_assoc}
use lib.Dec.{leb}
use borrow.Author.Tests.{ne_eqb}
use Rattle.loops.specs.Refusal.{taken}
use Rattle.loops.proofs.Choose.{by-test}
use Rattle.loops.proofs.Refusal.{taken_new, taken_old}
use Rattle.definition.specs.declared.IvectorInfo.{IvectorInfo}
use Rattle.definition.specs.declared.RingLengths.{RingLengths}
use Rattle.definition.specs.declared.RoomLengths.{RoomLengths}
use Rattle.definition.specs.Model.{Tables, Model, model_in}
use Rattle.definition.specs.Machine.{Call, push, finish, change, forget, set_window, fetch, Answer, Machine, Move, moved, push_tests, change_tests, window_tests, fetch_tests, not_finite, caught_up, does, told_by, answer, machine_after, answers_from}
use Rattle.definition.proofs.Floor.{first-not}
use Rattle.program.specs.Rooms.{Rooms}
use Rattle.program.specs.Calls.{answer_of, Step}
use Rattle.program.specs.Session.{Program, program, stepped, reply, step_of, program_after, program_answers}
use Rattle.program.specs.Keeping.{frames_taken}
use Rattle.program.proofs.Sound.{stream_of, Made, Inv, refusal_same}
use Rattle.program.proofs.Steps.{Next, taken_next}

-- ---- the keeping machine never answers 10

module _ (M : Model) (z : RingLengths) (k : Machine) where
  not_ten : (c : Call) → (does M z k c).refusal ≡ 10 → ⊥
  unfolding does push_tests change_tests window_tests fetch_tests
  not_ten (push x) e = first-not 10 _ (omega arith) (omega arith, (omega arith, (omega arith, (omega arith, (omega arith, tt))))) e
  not_ten finish e = first-not 10 [] (omega arith) tt e
  not_ten (change fs ws) e = first-not 10 _ (omega arith) (omega arith, (omega arith, (omega arith, (omega arith, (omega arith, tt))))) e
  not_ten (forget f) e = first-not 10 [] (omega arith) tt e
  not_ten (set_window w) e = first-not 10 _ (omega arith) (omega arith, (omega arith, tt)) e
  not_ten (fetch f m) e = first-not 10 _ (omega arith) (omega arith, (omega arith, (omega arith, tt))) e

module _ (i : IvectorInfo) (z : RoomLengths) (n : ℕ) (t : Tables) (made : Made i t z) where
  abbrev M : Model
  M = model_in i t

  -- what the machine does at a call, and the program in a state that matches it
  abbrev y : Machine → Call → Move
  y k c = does M z.rings k c

  abbrev p : Machine → Rooms → Program
  p k w = program (stream_of i z k) w

  abbrev x : Machine → Rooms → Call → Step
  x k w c = step_of t n (p k w) c

  -- ---- the state after any call, and what it gives

  pub record MovedOn (k : Machine) (w : Rooms) (c : Call) : Type 0 where
    pub rooms : Rooms
    pub state_is : stepped (p k w) (x k w c) ≡ p (moved k (y k c)) rooms
    pub holds : Inv i z n (moved k (y k c)) rooms
    pub gives : taken (x k w c).refusal (x k w c).vector [] ≡ taken (y k c).refusal (y k c).gives []
    pub counts : taken (x k w c).refusal (x k w c).nans 0 ≡ taken (y k c).refusal (y k c).nans 0

  pub moved_on : (k : Machine) (w : Rooms) → Inv i z n k w → (c : Call) → MovedOn k w c
  moved_on k w v c = go (y k c).refusal refl
    where
      same : (x k w c).refusal ≡ (y k c).refusal
      same = refusal_same i z n t made k w v c

      go : (r : ℕ) → (y k c).refusal ≡ r → MovedOn k w c
      go zero e =
          let m : Next i z n t made (x k w c) (y k c) = taken_next i z n t made k w v c e in
          let u : moved k (y k c) ≡ (y k c).left = taken_new (y k c).refusal (y k c).left k e in
          record {
            rooms = m.0;
            state_is = taken_new (x k w c).refusal _ (p k w) (same ∙ e) ∙ m.1 ∙ ap (λ (q : Machine). p q m.0) (sym u);
            holds = subst (λ (q : Machine). Inv i z n q m.0) (sym u) m.2;
            gives = taken_new (x k w c).refusal _ [] (same ∙ e) ∙ m.3 ∙ sym (taken_new (y k c).refusal _ [] e);
            counts = taken_new (x k w c).refusal _ 0 (same ∙ e) ∙ m.4 ∙ sym (taken_new (y k c).refusal _ 0 e);
          }
      go (suc r) e =
          let no : (y k c).refusal ≡ 0 → ⊥ = λ h. omega (arith, e, h) in
          let no' : (x k w c).refusal ≡ 0 → ⊥ = λ h. omega (arith, e, h, same) in
          let u : moved k (y k c) ≡ k = taken_old (y k c).refusal (y k c).left k no in
          record {
            rooms = w;
            state_is = taken_old (x k w c).refusal _ (p k w) no' ∙ ap (λ (q : Machine). p q w) (sym u);
            holds = subst (λ (q : Machine). Inv i z n q w) (sym u) v;
            gives = taken_old (x k w c).refusal (x k w c).vector [] no' ∙ sym (taken_old (y k c).refusal (y k c).gives [] no);
            counts = taken_old (x k w c).refusal (x k w c).nans 0 no' ∙ sym (taken_old (y k c).refusal (y k c).nans 0 no);
          }

  -- ---- the answer to any call

  told_same : (r m l : ℕ) (q : Machine) → (r ≡ 10 → ⊥) → answer_of r (stream_of i z q) m l ≡ told_by M r q m l
  unfolding answer_of told_by
  told_same r m l q h = rw (ne_eqb r 10 h)

  reply_same : (k : Machine) (w : Rooms) → Inv i z n k w → (c : Call) → reply (p k w) (x k w c) ≡ answer M k (y k c)
  unfolding reply answer
  reply_same k w v c =
      let m : MovedOn k w c = moved_on k w v c in
      let r = (y k c).refusal in
      rw (m.state_is, m.gives, m.counts, refusal_same i z n t made k w v c, told_same r (not_finite (taken r (y k c).gives [])) (taken r (y k c).nans 0) (moved k (y k c)) (not_ten M z.rings k c))

  -- ---- any list of calls

  pub keeps_from : (k : Machine) (w : Rooms) → Inv i z n k w → (cs : List Call) → program_answers t n (p k w) cs ≡ answers_from M z.rings k cs
  unfolding program_answers answers_from
  keeps_from k w v [] = refl
  keeps_from k w v (c ∷ cs) =
      let m : MovedOn k w c = moved_on k w v c in
      ap₂ (λ (a : Answer) (rest : List Answer). a ∷ rest) (reply_same k w v c)
      (ap (λ (q : Program). program_answers t n q cs) m.state_is ∙ keeps_from (moved k (y k c)) m.rooms m.holds cs)

  pub inv_after : (k : Machine) (w : Rooms) → Inv i z n k w → (cs : List Call)
      → (w' : Rooms) × (program_after t n (p k w) cs ≡ p (machine_after M z.rings k cs) w') × Inv i z n (machine_after M z.rings k cs) w'
  unfolding machine_after program_after
  inv_after k w v [] = (w, refl, v)
  inv_after k w v (c ∷ cs) =
      let m : MovedOn k w c = moved_on k w v c in
      let rest = inv_after (moved k (y k c)) m.rooms m.holds cs in
      (rest.0, ap (λ (q : Program). program_after t n q cs) m.state_is ∙ rest.1, rest.2)

-- ---- the machine keeps the frames taken

module _ (M : Model) (z : RingLengths) where
  history_fetch : (k : Machine) (f : ℕ) → (caught_up M k f).history ≡ k.history
  unfolding caught_up
  history_fetch k f = by-test (leb k.next f) (λ q. rw q) (λ q. rw q)

  -- a call with number r
  history_one : (r : ℕ) (k : Machine) (c : Call) (cs : List Call) (a : Answer) (rs : List Answer) → a.told.refusal ≡ r
      → (taken r (does M z k c).left k).history ++ frames_taken cs rs ≡ k.history ++ frames_taken (c ∷ cs) (a ∷ rs)
  unfolding frames_taken does
  history_one zero k (push x) cs a rs e = rw e (append_assoc k.history (x ∷ []) (frames_taken cs rs))
  history_one (suc r) k (push x) cs a rs e = rw e
  history_one zero k finish cs a rs e = refl
  history_one (suc r) k finish cs a rs e = refl
  history_one zero k (change fs ws) cs a rs e = refl
  history_one (suc r) k (change fs ws) cs a rs e = refl
  history_one zero k (forget f) cs a rs e = refl
  history_one (suc r) k (forget f) cs a rs e = refl
  history_one zero k (set_window w) cs a rs e = refl
  history_one (suc r) k (set_window w) cs a rs e = refl
  history_one zero k (fetch f m) cs a rs e = rw (history_fetch k f)
  history_one (suc r) k (fetch f m) cs a rs e = refl

  refusal_is : (k : Machine) (y : Move) → (answer M k y).told.refusal ≡ y.refusal
  unfolding answer told_by
  refusal_is k y = refl

  pub history_is : (k : Machine) (cs : List Call) → (machine_after M z k cs).history ≡ k.history ++ frames_taken cs (answers_from M z k cs)
  unfolding machine_after answers_from frames_taken
  history_is k [] = sym (append-nil _)
  history_is k (c ∷ cs) =
      let y : Move = does M z k c in
      history_is (moved k y) cs ∙ history_one y.refusal k c cs (answer M k y) _ (refusal_is k y)

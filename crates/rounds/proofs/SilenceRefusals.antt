-- What a call may rest on once no refusal is met.
use Prim.Native.Nat.{ℕ, suc, ◌≤◌, ◌<◌, min}
use mathlib.Core.Path.{◌≡◌, sym, ◌∙◌}
use native.Mathlib.Omega.{arith}
use mathlib.Core.Bool.{Bool, false, not}
use mathlib.Core.List.{[], ◌∷◌}
use borrow.Author.Tests.{eqb-true, ltb-false, leb-true, not-false}
use lib.Dec.{eqb, leb, ltb}
use lib.ListN.{length}
use lib.Ieee.{Float}
use lib.Ieee.Scale.{finite}
use Rattle.loops.specs.Refusal.{first_of}
use Rattle.loops.proofs.Choose.{or_fails, and_holds}
use Rattle.loops.proofs.Refusal.{none_first}
use Rattle.definition.specs.declared.InputFrame.{InputFrame}
use Rattle.definition.specs.declared.DecoderFrame.{DecoderFrame}
use Rattle.definition.specs.declared.SilenceWeighting.{SilenceWeighting}
use Rattle.definition.specs.declared.refusal.Refusal.{Refusal}
use Rattle.definition.specs.declared.refusal.Refusal.TheVariants as R
use Rattle.definition.specs.Number.{number_of}
use Rattle.definition.specs.Options.{within}
use Rattle.definition.specs.Silence.{Table, settings_refusal, places, table_broken, traceback_tests, wanted, asked, TableRooms, table_in, delta_tests, get_delta_weights}

settings_sound : (p : ℕ) (w : Float) (s : ℕ) → settings_refusal p w s ≡ 0 → (0 < s) × (s ≤ 16)
unfolding settings_refusal
settings_sound p w s e =
    let h = none_first ((ltb 64 p, 9) ∷ (not (within 1 16 s), 9) ∷ (not (finite w), 9) ∷ []) tt e in
    let g = and_holds (leb 1 s) (leb s 16) (not-false _ h.1.0) in
    (leb-true 1 s g.0, leb-true s 16 g.1)

-- a record that is not broken, with the lengths of its rooms
pub record Sound (s : SilenceWeighting) (ks ss ws : ℕ) : Type 0 where
  pub known_is : ks ≡ s.table
  pub silence_is : ss ≡ s.table
  pub weight_is : ws ≡ s.table
  pub some_subsampling : 0 < s.subsampling
  pub subsampling_is : s.subsampling ≤ 16
  pub length_is : s.length.0 ≤ places s

pub sound : (s : SilenceWeighting) (ks ss ws : ℕ) → table_broken s ks ss ws ≡ false → Sound s ks ss ws
unfolding table_broken
sound s ks ss ws e =
    let a = or_fails _ _ e in
    let b = or_fails _ _ a.0 in
    let d = or_fails _ _ b.0 in
    let f = or_fails _ _ d.0 in
    let g = settings_sound _ _ _ (eqb-true _ 0 (not-false _ b.1)) in
    record {
      known_is = eqb-true _ _ (not-false _ f.0);
      silence_is = eqb-true _ _ (not-false _ f.1);
      weight_is = eqb-true _ _ (not-false _ d.1);
      some_subsampling = g.0;
      subsampling_is = g.1;
      length_is = ltb-false _ _ a.1;
    }

pub record TracebackTaken (s : SilenceWeighting) (ks ss ws : ℕ) (decoded : DecoderFrame) (n a e : ℕ) : Type 0 where
  pub sound_is : Sound s ks ss ws
  pub decoded_is : decoded.0 ≤ places s
  pub starts_is : n ≡ a
  pub ends_is : n ≡ e

pub traceback_taken : (s : SilenceWeighting) (ks ss ws p : ℕ) (decoded : DecoderFrame) (n a e : ℕ) → first_of ((table_broken s ks ss ws, 10) ∷ traceback_tests s p decoded n a e) ≡ 0 → TracebackTaken s ks ss ws decoded n a e
unfolding traceback_tests
traceback_taken s ks ss ws p decoded n a e q =
    let h = none_first ((table_broken s ks ss ws, 10) ∷ traceback_tests s p decoded n a e) tt q in
    let g = and_holds (eqb n a) (eqb n e) (not-false _ h.1.1.1.0) in
    record { sound_is = sound s ks ss ws h.0; decoded_is = ltb-false _ _ h.1.1.0; starts_is = eqb-true n a g.0; ends_is = eqb-true n e g.1 }

pub record DeltaTaken (s : SilenceWeighting) (ks ss ws : ℕ) (ready first : InputFrame) (t : Table) (f w : ℕ) : Type 0 where
  pub sound_is : Sound s ks ss ws
  pub ready_is : ready.0 ≤ 1000000000
  pub first_is : first.0 ≤ 1000000000
  pub wanted_is : (wanted s ready first).0 ≤ places s
  pub room_is : length (asked s ready first t) ≤ min f w

pub delta_taken : (s : SilenceWeighting) (z : TableRooms) (ready first : InputFrame) (f w : ℕ) → (get_delta_weights s z ready first f w).refusal ≡ 0
    → DeltaTaken s (length z.known) (length z.is_silence) (length z.current_weight) ready first (table_in s.length z) f w
unfolding delta_tests get_delta_weights
delta_taken s z ready first f w q =
    let h = none_first ((table_broken s (length z.known) (length z.is_silence) (length z.current_weight), 10) ∷ delta_tests s ready first (table_in s.length z) f w) tt q in
    let a = or_fails _ _ h.1.0 in
    let b = or_fails _ _ a.0 in
    record {
      sound_is = sound s _ _ _ h.0;
      ready_is = ltb-false _ _ b.0;
      first_is = ltb-false _ _ b.1;
      wanted_is = ltb-false _ _ a.1;
      room_is = ltb-false _ _ h.1.1.0;
    }

-- what a `need` that was met tells: of the record, and of two numbers
pub not_broken : (broken whole : Bool) → broken ≡ not whole → 0 ≡ first_of ((not whole, 10) ∷ []) → broken ≡ false
not_broken broken whole e h = e ∙ (none_first ((not whole, 10) ∷ []) tt (sym h)).0

pub at_most : (a b k : ℕ) → 0 ≡ first_of ((not (leb a b), suc k) ∷ []) → a ≤ b
at_most a b k e = leb-true a b (not-false _ (none_first ((not (leb a b), suc k) ∷ []) tt (sym e)).0)

-- no refusal has the number 0
pub numbered : (e : Refusal) → number_of e ≡ 0 → ⊥
numbered R.OptionRange h = absurd (omega arith)
numbered R.CutShort h = absurd (omega arith)
numbered R.BadMark h = absurd (omega arith)
numbered R.DimensionRange h = absurd (omega arith)
numbered R.Disagree h = absurd (omega arith)
numbered R.BadNumber h = absurd (omega arith)
numbered R.CmvnForm h = absurd (omega arith)
numbered R.ShortRoom h = absurd (omega arith)
numbered R.SilenceSettings h = absurd (omega arith)
numbered R.ForeignRecord h = absurd (omega arith)
numbered R.FrameLength h = absurd (omega arith)
numbered R.FrameNumber h = absurd (omega arith)
numbered R.LastFrame h = absurd (omega arith)
numbered R.FramesFull h = absurd (omega arith)
numbered R.RowsFull h = absurd (omega arith)
numbered R.ChangeList h = absurd (omega arith)
numbered R.ChangeNumber h = absurd (omega arith)
numbered R.FrameGone h = absurd (omega arith)
numbered R.WaitingFull h = absurd (omega arith)
numbered R.OutputLength h = absurd (omega arith)
numbered R.NotReady h = absurd (omega arith)
numbered R.AboveHighest h = absurd (omega arith)
numbered R.DecoderFrames h = absurd (omega arith)
numbered R.SilenceLists h = absurd (omega arith)
numbered R.SettingsText h = absurd (omega arith)
numbered R.ShortOutput h = absurd (omega arith)
numbered R.VoiceCount h = absurd (omega arith)
numbered R.VectorLength h = absurd (omega arith)
numbered R.VectorNumber h = absurd (omega arith)
numbered R.Forgotten h = absurd (omega arith)
numbered R.WindowRange h = absurd (omega arith)
numbered R.OldWindow h = absurd (omega arith)
numbered R.TrySizes h = absurd (omega arith)
numbered R.ListTooShort h = absurd (omega arith)

-- Refusals 27, 28 and 29: what vectors that are not refused meet (`accepted`).
use mathlib.Core.Path.{◌≡◌, sym, ◌∙◌}
use mathlib.Core.Bool.{true, false}
use mathlib.Core.List.{List}
use Prim.Native.Nat.{ℕ, ◌*◌, ◌≤◌}
use borrow.Author.Tests.{not-false, leb-true, eqb-true}
use native.Mathlib.Omega.{arith}
use lib.ListN.{length}
use lib.Ieee.{Float}
use lib.Ieee.Scale.{finite}
use Rattle.loops.proofs.Choose.{or_fails, and_holds}
use Rattle.loops.proofs.Refusal.{none_first}
use Rattle.definition.specs.declared.refusal.Refusal.{Refusal}
use Rattle.definition.specs.declared.refusal.Refusal.TheVariants as R
use Rattle.definition.specs.Number.{number_of}
use Rattle.rounds.specs.Voice.{any_not_finite, voice_refusal}

-- no refusal has the number 0
pub some_number : (e : Refusal) → number_of e ≡ 0 → ⊥
some_number R.OptionRange h = absurd (omega arith)
some_number R.CutShort h = absurd (omega arith)
some_number R.BadMark h = absurd (omega arith)
some_number R.DimensionRange h = absurd (omega arith)
some_number R.Disagree h = absurd (omega arith)
some_number R.BadNumber h = absurd (omega arith)
some_number R.CmvnForm h = absurd (omega arith)
some_number R.ShortRoom h = absurd (omega arith)
some_number R.SilenceSettings h = absurd (omega arith)
some_number R.ForeignRecord h = absurd (omega arith)
some_number R.FrameLength h = absurd (omega arith)
some_number R.FrameNumber h = absurd (omega arith)
some_number R.LastFrame h = absurd (omega arith)
some_number R.FramesFull h = absurd (omega arith)
some_number R.RowsFull h = absurd (omega arith)
some_number R.ChangeList h = absurd (omega arith)
some_number R.ChangeNumber h = absurd (omega arith)
some_number R.FrameGone h = absurd (omega arith)
some_number R.WaitingFull h = absurd (omega arith)
some_number R.OutputLength h = absurd (omega arith)
some_number R.NotReady h = absurd (omega arith)
some_number R.AboveHighest h = absurd (omega arith)
some_number R.DecoderFrames h = absurd (omega arith)
some_number R.SilenceLists h = absurd (omega arith)
some_number R.SettingsText h = absurd (omega arith)
some_number R.ShortOutput h = absurd (omega arith)
some_number R.VoiceCount h = absurd (omega arith)
some_number R.VectorLength h = absurd (omega arith)
some_number R.VectorNumber h = absurd (omega arith)
some_number R.Forgotten h = absurd (omega arith)
some_number R.WindowRange h = absurd (omega arith)
some_number R.OldWindow h = absurd (omega arith)
some_number R.TrySizes h = absurd (omega arith)
some_number R.ListTooShort h = absurd (omega arith)

module _ (n : ℕ) (v : List ℕ) (count : ℕ) (e : List ℕ) (limit : Float) where
  -- what is not refused
  pub record Accepted : Type 0 where
    pub some : 1 ≤ count
    pub few : count ≤ 32
    pub vector_long : length v ≡ n
    pub rows_long : length e ≡ count * n
    pub vector_finite : any_not_finite v ≡ false
    pub rows_finite : any_not_finite e ≡ false
    pub limit_finite : finite limit ≡ true

  pub accepted : {r : ℕ} → r ≡ voice_refusal n v count e limit → r ≡ 0 → Accepted
  unfolding voice_refusal
  accepted h z =
      let t = none_first _ tt (sym h ∙ z) in
      let c = and_holds _ _ (not-false _ t.0) in
      let l = or_fails _ _ t.1.0 in
      let a = or_fails _ _ t.1.1.0 in
      let b = or_fails _ _ a.0 in
      let d = or_fails _ _ b.0 in
      record {
        some = leb-true _ _ c.0;
        few = leb-true _ _ c.1;
        vector_long = eqb-true _ _ (not-false _ l.0);
        rows_long = eqb-true _ _ (not-false _ l.1);
        vector_finite = d.0;
        rows_finite = d.1;
        limit_finite = not-false _ b.1;
      }

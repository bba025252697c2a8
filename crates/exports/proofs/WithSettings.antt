-- A load with the settings of two texts: the texts are refused, or it is the load with their options.
use mathlib.Core.Path.{◌≡◌, sym, ap, ◌∙◌, subst}
use mathlib.Core.Bool.{◌&&◌}
use mathlib.Core.List.{List}
use Prim.Native.Nat.{ℕ}
use native.Mathlib.Omega.{arith}
use lib.Ieee.{Float}
use Rattle.loops.proofs.Choose.{by-test}
use Rattle.definition.specs.declared.IvectorOptions.{IvectorOptions}
use Rattle.definition.specs.declared.TableLengths.{TableLengths}
use Rattle.definition.specs.Reader.{Got, refused}
use Rattle.definition.specs.Model.{Files, Model, load}
use Rattle.model.specs.Load.{scratch_kept}
use Rattle.kaldi.specs.Settings.{plain, settings_of, load_with}
use Rattle.exports.specs.declared.model_calls.SettingsAnswer.{SettingsAnswer}
use Rattle.exports.specs.Answers.{settings_answer}

-- ---- the load with them

never : ◌≡◌ {A = ℕ} 25 0 → ⊥
never e = omega arith

module _ (a b : List ℕ) (f : Files) (z : TableLengths) (n : ℕ) where
  pub with_refused : ((settings_answer (settings_of a b)).refusal ≡ 0 → ⊥) → load_with a b f z n ≡ refused (settings_answer (settings_of a b)).refusal
  unfolding settings_of settings_answer
  with_refused h = by-test (plain a && plain b) (λ e. absurd (h (rw e))) (λ e. rw e)

  pub with_taken : (settings_answer (settings_of a b)).refusal ≡ 0 → load_with a b f z n ≡ load (settings_answer (settings_of a b)).opts f z n
  unfolding settings_of settings_answer
  with_taken h = by-test (plain a && plain b) (λ e. rw e) (λ e. absurd (never (rw e at h)))

-- ---- with the settings' answer a

module _ (v w : List ℕ) {a : SettingsAnswer} (is : a ≡ settings_answer (settings_of v w)) where
  same_refusal : a.refusal ≡ (settings_answer (settings_of v w)).refusal
  same_refusal = ap (λ (x : SettingsAnswer). x.refusal) is

  pub same_options : a.opts ≡ (settings_answer (settings_of v w)).opts
  same_options = ap (λ (x : SettingsAnswer). x.opts) is

  module _ (f : Files) (z : TableLengths) (n : ℕ) where
    pub not_loaded : (a.refusal ≡ 0 → ⊥) → refused a.refusal ≡ load_with v w f z n
    not_loaded h = ap (λ (k : ℕ). refused k) same_refusal ∙ sym (with_refused v w f z n (λ k. h (same_refusal ∙ k)))

    pub is_loaded : a.refusal ≡ 0 → load a.opts f z n ≡ load_with v w f z n
    is_loaded h = ap (λ (o : IvectorOptions). load o f z n) same_options ∙ sym (with_taken v w f z n (sym same_refusal ∙ h))

-- what is kept of scratch, by another name of the load
pub kept_with : {g h : Got Model} → g ≡ h → (s s' : List Float) → scratch_kept g s s' → scratch_kept h s s'
kept_with e s s' x = subst (λ (k : Got Model). scratch_kept k s s') e x

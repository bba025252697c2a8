-- The code's own types, as the definitions speak of them: the parameters that are lent, and the answer.
use Rattle.std.specs.Prelude.{◌≡◌, true, ℕ, List, Result, Ok, Err, map, Float}
use Rattle.std.specs.Float.Ieee.Scale.{finite}
use Rattle.loops.specs.Lists.{all_of}
use Rattle.definition.specs.declared.refusal.Refusal.{Refusal}
use Rattle.definition.specs.Number.{number_of}
use Rattle.writer.specs.declared.model_bytes.LentParams.{LentParams}
use Rattle.writer.specs.declared.model_bytes.FileLengths.{FileLengths}
use Rattle.writer.specs.Written as W
use Rattle.writer.specs.Written.{Written, Params, params_from}

-- the parameters, whose numbers of type A stand for floats
abbrev pub params_in : {A : Type 0} → (A → Float) → LentParams A → Params
params_in f p =
    params_from p.sizes (map f p.weights.now) (map f p.means_invvars.now) (map f p.inv_vars.now) (map f p.m.now) (map f p.sigma_inv.now) (f p.prior_offset)
    (map f p.lda.now)

-- each of these numbers is finite
abbrev pub AllFinite : {A : Type 0} → (A → Float) → List A → Type 0
AllFinite f xs = all_of finite (map f xs) ≡ true

-- the lengths of the three files, or the number of a refusal
abbrev pub written_by : Result FileLengths ℕ → Written
written_by (Ok l) = W.Files l.gmm l.extractor l.lda
written_by (Err n) = W.Refused n

abbrev pub written_of : Result FileLengths Refusal → Written
written_of (Ok l) = W.Files l.gmm l.extractor l.lda
written_of (Err e) = W.Refused (number_of e)

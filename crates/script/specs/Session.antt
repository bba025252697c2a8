-- What the programs that play load and stream calls read and print.
use Rattle.std.specs.Prelude.{ℕ, ◌%◌, ◌^◌, ◌==◌, List, [], ◌∷◌, ◌++◌, codes, decimal, if◌then◌else◌, None, Some, Option}
use Rattle.std.specs.Float.{binary32, binary64}
use Rattle.std.specs.Float.Ieee.{of_bits}
use Rattle.definition.specs.declared.IvectorInfo.{IvectorInfo}
use Rattle.definition.specs.declared.IvectorOptions.{IvectorOptions}
use Rattle.definition.specs.declared.StreamAnswer.{StreamAnswer}
use Rattle.script.specs.declared.session.Held.{Held}
use Rattle.script.specs.declared.session.Held.TheVariants as H
use Rattle.script.specs.Words.{value_at_front, behind_number}

-- the model of what is open
abbrev pub model_of : Held → Option IvectorInfo
model_of H.Nothing = None
model_of (H.Model info) = Some info
model_of (H.Stream s) = Some s.info

-- the text behind n numbers, of which the first six are decimal
abbrev pub behind_six : List ℕ → List ℕ
behind_six text = behind_number 10 (behind_number 10 (behind_number 10 (behind_number 10 (behind_number 10 (behind_number 10 text)))))

abbrev pub behind_options : List ℕ → List ℕ
behind_options text = behind_number 16 (behind_number 16 (behind_number 16 (behind_number 16 (behind_six text))))

-- the options at the front of a text: six decimal numbers and four floats by their bits
abbrev pub options_at : List ℕ → IvectorOptions
options_at text =
    let right = behind_number 10 text in
    let window = behind_number 10 right in
    let global = behind_number 10 window in
    let gselect = behind_number 10 global in
    let iters = behind_number 10 gselect in
    let post = behind_number 10 iters in
    let scale = behind_number 16 post in
    let count = behind_number 16 scale in
    let energy = behind_number 16 count in
    record {
      left_context = value_at_front 10 text;
      right_context = value_at_front 10 right;
      cmn_window = value_at_front 10 window;
      global_frames = value_at_front 10 global;
      num_gselect = value_at_front 10 gselect;
      num_cg_iters = value_at_front 10 iters;
      min_post = of_bits binary32 (value_at_front 16 post % 2 ^ 32);
      posterior_scale = of_bits binary32 (value_at_front 16 scale % 2 ^ 32);
      max_count = of_bits binary64 (value_at_front 16 count);
      min_energy = of_bits binary32 (value_at_front 16 energy % 2 ^ 32);
    }

-- what is printed of an answer: its number, and what is held; 10 stands alone
abbrev pub answer_text : StreamAnswer → List ℕ
answer_text a = decimal a.refusal ++ (if a.refusal == 10 then [] else (32 ∷ decimal a.frames_held) ++ (32 ∷ decimal a.rows_held))

abbrev pub no_such_line : List ℕ
no_such_line = codes "no such line here" ++ (10 ∷ [])

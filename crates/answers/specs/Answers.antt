-- An exported answer is a record with the refusal's number, 0 where the call was taken. The record beside a refusal is one that no
-- call made and that every call refuses with 10.
use Rattle.std.specs.Prelude.{[], ℕ, Result, Ok, Err}
use Rattle.floats.specs.Operators.{zero₃₂, zero₆₄}
use Rattle.definition.specs.declared.IvectorOptions.{IvectorOptions}
use Rattle.definition.specs.declared.Dimensions.{Dimensions}
use Rattle.definition.specs.declared.IvectorInfo.{IvectorInfo}
use Rattle.definition.specs.declared.IvectorStream.{IvectorStream}
use Rattle.definition.specs.declared.StreamAnswer.{StreamAnswer}
use Rattle.definition.specs.declared.StreamCall.{StreamCall}
use Rattle.definition.specs.declared.SilenceWeighting.{SilenceWeighting}
use Rattle.definition.specs.declared.refusal.Refusal.{Refusal}
use Rattle.definition.specs.Number.{number_of}
use Rattle.definition.specs.Model.{lengths_from}
use Rattle.definition.specs.Silence.{decoder}
use Rattle.program.specs.Rooms.{rings_from, estimate_from, rooms_from, room_lengths_of}
use Rattle.program.specs.Calls.{answer_from, call_of, fresh_stream}
use Rattle.answers.specs.declared.LoadAnswer.{LoadAnswer}
use Rattle.answers.specs.declared.NewTableAnswer.{NewTableAnswer}

-- no dimension is 0
abbrev pub no_info : IvectorOptions → IvectorInfo
no_info o =
    let d : Dimensions = record { num_gauss = 0; ext_gauss = 0; feat_dim = 0; ivector_dim = 0; base_dim = 0; lda_cols = 0 } in
    record { opts = o; dims = d; prior_offset = zero₆₄; tables = lengths_from 0 0 0 0 0 0 0 0 }

-- with options o
unfoldable pub load_answer : IvectorOptions → Result IvectorInfo ℕ → LoadAnswer
load_answer o (Ok i) = record { refusal = 0; info = i }
load_answer o (Err n) = record { refusal = n; info = no_info o }

-- no window is 0
abbrev pub no_options : IvectorOptions
no_options =
    record {
      left_context = 0;
      right_context = 0;
      cmn_window = 0;
      global_frames = 0;
      num_gselect = 0;
      num_cg_iters = 0;
      min_post = zero₃₂;
      posterior_scale = zero₃₂;
      max_count = zero₆₄;
      min_energy = zero₃₂;
    }

-- no room has a length that a stream can have
abbrev pub no_stream : IvectorInfo → IvectorStream
no_stream i = fresh_stream i (room_lengths_of (rooms_from (rings_from [] [] [] []) (estimate_from [] [] [] [])) 0)

-- what is returned, and the record behind the reference
abbrev pub answered : StreamAnswer → IvectorStream → StreamCall
answered a s = record { answer = a; stream = s }

-- what a start made that left the record s
abbrev pub made : Result Unit Refusal → IvectorStream → Result StreamCall ℕ
made (Ok a) s = Ok (call_of 0 s 0 0)
made (Err e) s = Err (number_of e)

unfoldable pub new_stream_answer : IvectorInfo → Result StreamCall ℕ → StreamCall
new_stream_answer i (Ok c) = c
new_stream_answer i (Err n) = answered (answer_from n 0 0 0 0) (no_stream i)

-- no subsampling is 0
abbrev pub no_table : SilenceWeighting
no_table = record { silence_weight = zero₃₂; subsampling = 0; phones = 0; table = 0; length = decoder 0 }

unfoldable pub new_table_answer : Result SilenceWeighting ℕ → NewTableAnswer
new_table_answer (Ok s) = record { refusal = 0; silence = s }
new_table_answer (Err n) = record { refusal = n; silence = no_table }

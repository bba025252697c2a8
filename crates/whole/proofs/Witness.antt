-- What `whole` says of P9: its four files' bytes are loaded, a stream is made over the tables that the load filled, and the answers to a push and a
-- fetch are P9's, the vector's bits those of 0.5; with too few rooms the stream is refused, and with a byte less so is the load. The machine's side
-- computes; the program's is `whole`.
use mathlib.Core.Path.{◌≡◌, refl, ◌∙◌}
use Prim.Native.Nat.{ℕ}
use mathlib.Core.List.{List, [], ◌∷◌}
use lib.ListN.{replicate, take}
use lib.Ieee.{Float}
use Rattle.floats.specs.Operators.{as_f64, zero₃₂, zero₆₄}
use Rattle.definition.specs.Model.{Tables, tables_from, Files}
use Rattle.definition.specs.Machine.{Call, push, fetch}
use Rattle.definition.proofs.Computed.{computed}
use Rattle.definition.proofs.Examples.{single, files, wide_two, said}
use Rattle.program.specs.Rooms.{Rooms, rings_from, estimate_from, rooms_from}
use Rattle.whole.specs.Whole.{Answered, not_loaded, not_made, played, program_session, machine_session}
use Rattle.whole.proofs.Whole.{whole}

-- lent tables and rooms, zeros in all of them: n frames, three prefix rows, one waiting change
abbrev lent : Tables
lent =
    let one : List Float = zero₃₂ ∷ [] in
    tables_from one one one (zero₆₄ ∷ []) (zero₆₄ ∷ []) one one (zero₆₄ ∷ zero₆₄ ∷ [])

abbrev room : ℕ → Rooms
room n = rooms_from (rings_from (replicate n zero₃₂) (replicate 3 zero₆₄) (0 ∷ []) (zero₃₂ ∷ [])) (estimate_from (replicate 2 zero₆₄) (zero₆₄ ∷ []) (zero₆₄ ∷ []) (zero₆₄ ∷ []))

-- one frame, 4, and a fetch of it with an output of one number
abbrev calls : List Call
calls = push (as_f64 4 ∷ []) ∷ fetch 0 1 ∷ []

-- 0 frames and 1 row held at first
abbrev half : Answered
half = played (said 0 0 1 [] 0).told (said 0 1 2 [] 0 ∷ said 0 1 2 (0x3f00_0000 ∷ []) 0 ∷ [])

-- P9's files but for the GMM's last byte
abbrev cut : Files
cut = let f : Files = files wide_two in record { gmm = take 67 f.gmm; extractor = f.extractor; lda = f.lda; cmvn = f.cmvn }

abbrev Told : Files → ℕ → Answered → Type 0
Told f n a = program_session (single 15) f lent 2 (room n) 1 calls ≡ a

machine-half : machine_session (single 15) (files wide_two) lent 2 (room 2) 1 calls ≡ half
unfolding computed machine_session
machine-half = refl

machine-not-made : machine_session (single 15) (files wide_two) lent 2 (room 0) 1 calls ≡ not_made 8
unfolding computed machine_session
machine-not-made = refl

machine-not_loaded : machine_session (single 15) cut lent 2 (room 2) 1 calls ≡ not_loaded 2
unfolding computed machine_session
machine-not_loaded = refl

pub record Witness : Type 0 where
  pub P9 : Told (files wide_two) 2 half
  pub no_room : Told (files wide_two) 0 (not_made 8)
  pub a_byte_less : Told cut 2 (not_loaded 2)

pub witness : Witness
witness =
    record {
      P9 = whole (single 15) (files wide_two) lent 2 (room 2) 1 calls ∙ machine-half;
      no_room = whole (single 15) (files wide_two) lent 2 (room 0) 1 calls ∙ machine-not-made;
      a_byte_less = whole (single 15) cut lent 2 (room 2) 1 calls ∙ machine-not_loaded;
    }

-- Invariant: the bytes before place k are read.
use Rattle.std.proofs.Common.{◌≡◌, ◌<◌, ℕ, slice_index}
use Rattle.script.specs.Words.{hex_at}
use Rattle.script.proofs.words.Words.bytes.Given as goal

abbrev pub invariant-loop-k : goal.invariant-loop-k
invariant-loop-k l = (i : ℕ) → i < l.k → slice_index l.room i ≡ hex_at l.digits i

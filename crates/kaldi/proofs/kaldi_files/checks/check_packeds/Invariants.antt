-- The loop of `check_packeds`: the blocks so far, and those that are left, tell the run's tally.
use Rattle.std.proofs.Common.{◌≡◌, ◌-◌, true}
use Rattle.kaldi.specs.Inner.KaldiFilesAnswers.{inverses, square_as}
use Rattle.kaldi.specs.Inner.KaldiFiles.{tally}
use Rattle.kaldi.proofs.kaldi_files.checks.check_packeds.Given as goal

abbrev pub invariant-loop : goal.invariant-loop
invariant-loop l = record {
  so_far : tally true (square_as l.dim) (inverses l.fn.r.src.now l.count l.fn.r.at) ≡ tally l.alike (square_as l.dim) (inverses l.fn.r.src.now (l.count - l.counter) l.r.at);
  same_source : l.r.src ≡ l.fn.r.src;
}

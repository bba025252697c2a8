-- `KaldiReader::vector` meets its contract: the vector is read where the reader stands, and it moves behind it; no search is asked.
use Rattle.kaldi.proofs.kaldi_io.reader.KaldiReader.vector.Goals as goal

pub returns-clause-value : goal.returns-clause-value
returns-clause-value g c = c.in_ok-numbers.ensures.value

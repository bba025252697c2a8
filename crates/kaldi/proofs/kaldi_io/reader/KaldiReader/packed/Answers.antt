-- `KaldiReader::packed` meets its contract: the matrix is read where the reader stands, and it moves behind it; no search is asked.
use Rattle.kaldi.proofs.kaldi_io.reader.KaldiReader.packed.Goals as goal

pub returns-clause-value : goal.returns-clause-value
returns-clause-value c = c.in_ok-matrix.ensures.value

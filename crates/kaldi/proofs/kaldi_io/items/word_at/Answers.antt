-- `word_at` meets its contract: the word that it cuts is the definition's, with the byte behind it (`word_read` in Words.antt).
use Rattle.std.proofs.Common.{arith}
use Rattle.std.proofs.lemmas.List.{take_rest}
use borrow.Author.Tests.{ltb-true}
use Rattle.kaldi.proofs.TextRuns.{passed}
use Rattle.kaldi.proofs.Words.{word_read}
use Rattle.kaldi.proofs.kaldi_io.items.word_at.Goals as goal

pub returns : goal.returns
returns c =
    let left = c.rest-rest in
    let blanks = c.blanks_len-from in
    word_read c.args.src.now c.args.at left.result.now _ blanks.result c.letters_len-len.result left.ensures blanks.ensures.value (take_rest left.result.now blanks.result) c.letters_len-len.ensures
    (ltb-true _ _ (passed _ 2 (omega arith) c.in_ok-need.ensures))

-- `frame_at` meets its contract: at place j stands the group of change j, or frame next + j (`frame_there`); the logarithm without weights is that of
-- `min_post` (`plain_log`); both laws are in Places.antt.
use Rattle.stream.proofs.Places.{frame_there, plain_log}
use Rattle.stream.proofs.ivector_batch.intake.Intake.frame_at.Goals as goal

pub returns-clause-left : goal.returns-clause-left
returns-clause-left c =
    let a = c.args in
    let x = a.self.now in
    frame_there a.o x.called x.next a.places x.waiting.frames.now x.waiting.weights.now a.j c.if-self.false c.requires.within c.unweighted-weight.ensures

pub returns-clause-log : goal.returns-clause-log
returns-clause-log c = plain_log c.args.o c.unweighted-weight.ensures c.requires.log

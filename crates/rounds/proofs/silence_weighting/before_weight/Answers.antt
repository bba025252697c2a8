-- The weight before the walk: by whether it begins at frame 0.
use Rattle.rounds.proofs.Walk.{before_first, before_later}
use Rattle.rounds.proofs.silence_weighting.before_weight.Goals as goal

pub returns-then-begin-eq0 : goal.returns-then-begin-eq0
returns-then-begin-eq0 c = λ ks ss. before_first _ ks ss _ _ _ c.walk_begin-begin.ensures c.if-begin-eq0.true

pub returns : goal.returns
returns c = λ ks ss. before_later _ ks ss _ _ _ _ c.walk_begin-begin.ensures c.if-begin-eq0.false c.weight.ensures

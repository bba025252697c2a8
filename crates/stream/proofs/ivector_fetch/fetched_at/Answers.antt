-- `fetched_at` meets its contract: element 0 and a later one, by the two laws of one element in Vector.antt.
use Rattle.stream.proofs.Vector.{first_element, later_element}
use Rattle.stream.proofs.ivector_fetch.fetched_at.Goals as goal

pub returns-then-i-eq0 : goal.returns-then-i-eq0
returns-then-i-eq0 c = first_element _ _ _ c.if-i-eq0.true c.narrow-v.ensures c.narrow.ensures

pub returns : goal.returns
returns c = later_element _ _ _ c.if-i-eq0.false c.narrow-v.ensures

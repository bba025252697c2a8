-- Each of the two numbers is `signed_at`'s by its test for a minus sign (Scanning.antt).
use Rattle.script.proofs.Scanning.{signed_minus, signed_plain}
use Rattle.script.proofs.signed_number.Goals as goal

pub returns-then-byte_at-eq45 : goal.returns-then-byte_at-eq45
returns-then-byte_at-eq45 c = signed_minus _ _ c.byte_at.ensures c.if-byte_at-eq45.true c.step.ensures c.number-n.ensures

pub returns : goal.returns
returns c = signed_plain _ _ c.byte_at.ensures c.if-byte_at-eq45.false c.number-n-2.ensures

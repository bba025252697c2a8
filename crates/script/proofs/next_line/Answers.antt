-- `next_line` meets its contract: a byte 10 ends the line (`line_found`), else a turn is `line_turn`, the end `line_done` (Scanning.antt).
use Rattle.std.proofs.Common.{rules}
use Rattle.script.proofs.Scanning.{line_done, line_turn, line_found}
use Rattle.script.proofs.next_line.Goals as goal

pub returns-then-text-i-eq10-clause-line : goal.returns-then-text-i-eq10-clause-line
returns-then-text-i-eq10-clause-line c = line_found _ _ _ c.loop-i.invariant.line c.loop-i-test.true c.if-text-i-eq10.true

pub loop-i-preserved : goal.loop-i-preserved
loop-i-preserved c = record { within = search rules; line = line_turn _ _ _ c.loop-i.invariant.line c.loop-i-test.true c.if-text-i-eq10.false }

pub returns-clause-line : goal.returns-clause-line
returns-clause-line c = let e = line_done _ _ _ c.loop-i.invariant.line c.loop-i-test.false in search rules

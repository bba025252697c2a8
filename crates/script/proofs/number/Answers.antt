-- `number` meets its contract: a turn is `scan_turn`; a byte ends the number (`scan_end`), or the text does (`scan_done`, all in Scanning.antt).
use Rattle.std.proofs.Common.{rules, ◌≡◌, ap, ◌∙◌}
use Rattle.script.proofs.Scanning.{scan_done, scan_turn, scan_end}
use Rattle.script.proofs.number.Goals as goal

pub returns-in-None : goal.returns-in-None
returns-in-None c = scan_end _ _ _ _ _ c.loop-i.invariant.number c.loop-i-test.true c.in-None.ensures

pub loop-i-preserved : goal.loop-i-preserved
loop-i-preserved c = record { within = search rules; number = let e = scan_turn _ _ _ _ _ c.loop-i.invariant.number c.loop-i-test.true c.in-Some.ensures.0 in search rules }

pub returns : goal.returns
returns c =
    let same : c.max.result ≡ c.loop-i.i = search rules in
    ap (λ i. record { value = c.loop-i.value; next = i }) same ∙ scan_done _ _ _ _ _ c.loop-i.invariant.number c.loop-i-test.false

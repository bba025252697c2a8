-- Each range of bytes has its digit by `digit_of`, and every other byte 16 (`digit_decimal` to `digit_above`, Scanning.antt).
use Rattle.std.proofs.Common.{rules}
use Rattle.script.proofs.Scanning.{digit_decimal, digit_letter, digit_below, digit_between, digit_above}
use Rattle.script.proofs.digit.Goals as goal

pub returns-in-48-to-57 : goal.returns-in-48-to-57
returns-in-48-to-57 c = let e = digit_decimal c.args.b (search rules) (search rules) in (search rules, search rules)

pub returns-in-97-to-102 : goal.returns-in-97-to-102
returns-in-97-to-102 c = let e = digit_letter c.args.b (search rules) (search rules) in (search rules, search rules)

pub returns-in_default : goal.returns-in_default
returns-in_default c = let e = digit_below c.args.b (search rules) in search rules

pub returns-in_default-2 : goal.returns-in_default-2
returns-in_default-2 c = let e = digit_between c.args.b (search rules) (search rules) in search rules

pub returns-in_default-3 : goal.returns-in_default-3
returns-in_default-3 c = let e = digit_above c.args.b (search rules) in search rules

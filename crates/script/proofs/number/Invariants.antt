-- The loop's invariant of `number`: the number from place i on, with the digits so far, is the number at the start (`number_at`).
use Rattle.std.proofs.Common.{◌≡◌, ◌≤◌, max, length, drop}
use Rattle.script.specs.Scan.{number_at}
use Rattle.script.proofs.number.Given as goal

abbrev pub invariant-loop-i : goal.invariant-loop-i
invariant-loop-i l = record {
  number : number_at l.base l.value (drop l.i l.text) l.i ≡ number_at l.base 0 (drop l.at l.text) l.at;
  within : l.i ≤ max l.at (length l.text);
}

-- The loop's invariant of `next_line`: the line after place i is the line after the start (`line_at`).
use Rattle.std.proofs.Common.{◌≡◌, ◌≤◌, max, length, drop}
use Rattle.script.specs.Scan.{line_at}
use Rattle.script.proofs.next_line.Given as goal

abbrev pub invariant-loop-i : goal.invariant-loop-i
invariant-loop-i l = record {
  line : line_at (drop l.i l.text) l.i ≡ line_at (drop l.at l.text) l.at;
  within : l.i ≤ max l.at (length l.text);
}

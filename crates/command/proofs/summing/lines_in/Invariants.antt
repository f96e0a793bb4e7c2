use Rattle.std.proofs.Common.{◌≡◌, ◌≤◌, ◌+◌, drop}
use Rattle.command.specs.Due.{lines_in as count_of_lines}
use Rattle.command.proofs.summing.lines_in.Given as goal

abbrev pub invariant-loop-byte : goal.invariant-loop-byte
invariant-loop-byte l = record {
  few : l.lines ≤ l.byte-index;
  counted : l.lines + count_of_lines (drop l.byte-index l.bytes) ≡ count_of_lines l.bytes;
}

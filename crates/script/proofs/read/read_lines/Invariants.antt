use Rattle.std.proofs.Common.{◌≤◌, length}
use Rattle.script.specs.Scripts.{most_lines}
use Rattle.script.specs.Reading.{IsPast, IsReadTo}
use Rattle.script.proofs.read.read_lines.Given as goal

abbrev pub invariant-loop-rest : goal.invariant-loop-rest
invariant-loop-rest l = record {
  past : IsPast l.names l.past.lines l.past.last l.past.occurred.items;
  read : IsReadTo l.names l.text l.past.lines l.rest;
  few : length l.past.lines ≤ most_lines;
}

abbrev pub decreases-loop-rest : goal.decreases-loop-rest
decreases-loop-rest l = length l.rest

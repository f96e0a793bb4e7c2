use Rattle.std.proofs.Common.{◌≤◌, take, get_or}
use Rattle.std.specs.Prelude.{All}
use Rattle.static_calls.proofs.cycles.rises.Given as goal

abbrev pub invariant-loop-to : goal.invariant-loop-to
invariant-loop-to l = All (λ to. l.least ≤ get_or l.numbers to 0) (take l.to-index l.row)

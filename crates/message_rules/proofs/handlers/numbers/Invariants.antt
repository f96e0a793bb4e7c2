use Rattle.std.proofs.Common.{◌≡◌, List, [], map, take, drop}
use Rattle.syntax_tree.specs.Placed.{placed, placed_constant}
use Rattle.static_declarations.specs.Values.{value}
use Rattle.static_numbers.specs.Processes.{Handled, handled}
use Rattle.message_rules.specs.Findings.{handled_findings}
use Rattle.message_rules.specs.Seen.{left}
use Rattle.message_rules.proofs.handlers.numbers.Given as goal

abbrev pub invariant-loop-index : goal.invariant-loop-index
invariant-loop-index l = let of = handled_findings (value (placed l.declarations)) in (more : List Handled) → left of l.broken l.known (handled (map placed_constant (take l.index l.list)) (map placed_constant (drop l.index l.list)) more) ≡ left of l.broken l.fn.known (handled [] (map placed_constant l.list) more)

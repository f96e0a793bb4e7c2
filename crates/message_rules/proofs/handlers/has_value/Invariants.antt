use Rattle.std.proofs.Common.{◌≡◌, map, drop}
use Rattle.syntax_tree.specs.Placed.{placed, placed_constant}
use Rattle.static_declarations.specs.Values.{value}
use Rattle.static_numbers.specs.Processes.{has_value}
use Rattle.message_rules.proofs.handlers.has_value.Given as goal

abbrev pub invariant-loop-one : goal.invariant-loop-one
invariant-loop-one l = let worth = value (placed l.declarations) in has_value worth l.number (map placed_constant (drop l.one-index l.list)) ≡ has_value worth l.number (map placed_constant l.list)

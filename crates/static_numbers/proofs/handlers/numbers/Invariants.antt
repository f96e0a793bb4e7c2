use Rattle.std.proofs.Common.{◌≡◌, List, [], map, take, drop}
use Rattle.syntax_tree.specs.Placed.{placed, placed_constant}
use Rattle.static_rule.specs.Parts.{noted}
use Rattle.static_declarations.specs.Values.{value}
use Rattle.static_numbers.specs.Processes.{Handled, handled}
use Rattle.static_numbers.specs.Rules.{handler_rules}
use Rattle.static_numbers.specs.Seen.{HasValues}
use Rattle.static_numbers.proofs.handlers.numbers.Given as goal

abbrev pub invariant-loop-one : goal.invariant-loop-one
invariant-loop-one l = let g = placed l.declarations in let before = map placed_constant (take l.one-index l.list) in record {
  known : HasValues (value g) l.values.keys before;
  left : (more : List Handled) → noted (handler_rules g) l.first (handled before (map placed_constant (drop l.one-index l.list)) more) ≡ noted (handler_rules g) l.fn.first (handled [] (map placed_constant l.list) more);
}

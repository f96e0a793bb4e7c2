use Rattle.std.proofs.Common.{◌≡◌, ◌+◌, ◌≤◌, map, drop}
use Rattle.syntax_tree.specs.Placed.{placed, placed_decl}
use Rattle.syntax_tree.specs.Parts.{processes}
use Rattle.static_names.specs.Occurrences.{names, declared_at}
use Rattle.static_numbers.specs.Processes.{users}
use Rattle.message_rules.proofs.events.count_users.Given as goal

abbrev pub invariant-loop-one : goal.invariant-loop-one
invariant-loop-one l = let declared = declared_at (names (placed l.declarations)) in record {
  within : l.count ≤ l.one-index;
  left : l.count + users declared l.event (processes (map placed_decl (drop l.one-index l.one-items))) ≡ users declared l.event (processes (map placed_decl l.one-items));
}

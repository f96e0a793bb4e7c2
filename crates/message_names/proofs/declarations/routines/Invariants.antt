use Rattle.std.proofs.Common.{◌≡◌, ◌++◌, drop, map}
use Rattle.std.specs.Prelude.{flat_map}
use Rattle.syntax_tree.specs.Placed.{placed_routine}
use Rattle.message_names.specs.Mentions.{routine_mentions}
use Rattle.message_names.proofs.declarations.routines.Given as goal

abbrev pub invariant-loop-one : goal.invariant-loop-one
invariant-loop-one l = l.mentions ++ flat_map (routine_mentions l.is_entry l.scope) (map placed_routine (drop l.one-index l.list)) ≡ l.fn.mentions ++ flat_map (routine_mentions l.is_entry l.scope) (map placed_routine l.list)

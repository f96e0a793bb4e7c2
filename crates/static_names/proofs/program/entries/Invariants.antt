use Rattle.std.proofs.Common.{◌≡◌, map, drop}
use Rattle.syntax_tree.specs.Placed.{placed_routine}
use Rattle.static_names.specs.Occurrences.{entry_name}
use Rattle.static_names.specs.Seen.{entry_meaning, add_entries}
use Rattle.static_names.proofs.program.entries.Given as goal

abbrev pub invariant-loop-entry : goal.invariant-loop-entry
invariant-loop-entry l = add_entries (entry_meaning l.entries.entries) l.fn.monitor (map entry_name (map placed_routine (drop l.entry-index l.list))) ≡ add_entries (entry_meaning l.fn.entries.entries) l.fn.monitor (map entry_name (map placed_routine l.list))

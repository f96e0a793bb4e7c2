use Rattle.std.proofs.Common.{◌≡◌, drop, map}
use Rattle.message_table.specs.Names.{taken_found, taken_from}
use Rattle.message_table.specs.Seen.{mark_of, names_of}
use Rattle.message_table.proofs.names.taken_found.Given as goal

abbrev pub invariant-loop-mark : goal.invariant-loop-mark
invariant-loop-mark l = taken_from (names_of l.names) (map mark_of (drop l.mark-index l.marks)) ≡ taken_found (map mark_of l.marks)

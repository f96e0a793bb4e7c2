use Rattle.std.proofs.Common.{◌≡◌, drop, map}
use Rattle.std.specs.Prelude.{find}
use Rattle.message_table.specs.Names.{is_misnamed}
use Rattle.message_table.specs.Seen.{mark_of}
use Rattle.message_table.proofs.names.name_found.Given as goal

abbrev pub invariant-loop-mark : goal.invariant-loop-mark
invariant-loop-mark l = find (is_misnamed) (map mark_of (drop l.mark-index l.marks)) ≡ find (is_misnamed) (map mark_of l.marks)

use Rattle.std.proofs.Common.{◌≡◌, drop, map}
use Rattle.std.specs.Prelude.{find}
use Rattle.message_table.specs.Ticks.{is_unmet_stay}
use Rattle.message_table.specs.Seen.{mark_of}
use Rattle.message_table.proofs.ticks.first_unmet_stay.Given as goal

abbrev pub invariant-loop-mark : goal.invariant-loop-mark
invariant-loop-mark l = find (is_unmet_stay) (map mark_of (drop l.mark-index l.marks)) ≡ find (is_unmet_stay) (map mark_of l.marks)

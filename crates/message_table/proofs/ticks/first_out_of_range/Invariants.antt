use Rattle.std.proofs.Common.{◌≡◌, drop, map}
use Rattle.std.specs.Prelude.{find}
use Rattle.message_table.specs.Ticks.{is_out_of_range}
use Rattle.message_table.specs.Seen.{mark_of}
use Rattle.message_table.proofs.ticks.first_out_of_range.Given as goal

abbrev pub invariant-loop-mark : goal.invariant-loop-mark
invariant-loop-mark l = find (is_out_of_range l.frame) (map mark_of (drop l.mark-index l.marks)) ≡ find (is_out_of_range l.frame) (map mark_of l.marks)

use Rattle.std.proofs.Common.{◌≡◌, drop, map}
use Rattle.std.specs.List.{list_any}
use Rattle.message_table.specs.Seen.{mark_of}
use Rattle.message_table.specs.Ticks.{is_stay_ticks}
use Rattle.message_table.proofs.ticks.has_stays.Given as goal

abbrev pub invariant-loop-mark : goal.invariant-loop-mark
invariant-loop-mark l = list_any is_stay_ticks (map mark_of (drop l.mark-index l.marks)) ≡ list_any is_stay_ticks (map mark_of l.marks)

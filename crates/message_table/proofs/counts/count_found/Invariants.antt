use Rattle.std.proofs.Common.{◌≡◌, drop, map}
use Rattle.message_table.specs.Counts.{count_found, count_from}
use Rattle.message_table.specs.Seen.{mark_of, room_of}
use Rattle.message_table.proofs.counts.count_found.Given as goal

abbrev pub invariant-loop-mark : goal.invariant-loop-mark
invariant-loop-mark l = count_from (room_of l.room) (map mark_of (drop l.mark-index l.marks)) ≡ count_found (map mark_of l.marks)

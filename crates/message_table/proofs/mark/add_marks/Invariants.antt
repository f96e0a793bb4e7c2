use Rattle.std.proofs.Common.{map}
use Rattle.message_table.specs.Seen.{mark_of}
use Rattle.message_table.proofs.Splits.{IsRead}
use Rattle.message_table.proofs.mark.add_marks.Given as goal

abbrev pub invariant-loop-at : goal.invariant-loop-at
invariant-loop-at l = IsRead l.bytes l.number (map mark_of l.fn.marks.items) l.start l.at (map mark_of l.marks.items) l.wanted

use Rattle.std.proofs.Common.{◌≡◌, map}
use Rattle.message_table.specs.Marks.{marks_to}
use Rattle.message_table.specs.Seen.{mark_of}
use Rattle.message_table.proofs.mark.marks_to.Given as goal

abbrev pub invariant-loop-before : goal.invariant-loop-before
invariant-loop-before l = map mark_of l.marks.items ≡ marks_to l.text l.before

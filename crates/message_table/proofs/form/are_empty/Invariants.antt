use Rattle.std.proofs.Common.{◌≡◌, drop, map}
use Rattle.std.specs.List.{list_all}
use Rattle.message_table.specs.Form.{is_empty}
use Rattle.message_table.specs.Seen.{mark_of}
use Rattle.message_table.proofs.form.are_empty.Given as goal

abbrev pub invariant-loop-mark : goal.invariant-loop-mark
invariant-loop-mark l = list_all (λ other. is_empty other.word) (map mark_of (drop l.mark-index l.marks)) ≡ list_all (λ other. is_empty other.word) (map mark_of l.marks)

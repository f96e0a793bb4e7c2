use Rattle.std.proofs.Common.{◌≡◌, drop, map}
use Rattle.std.specs.Prelude.{find}
use Rattle.message_table.specs.Form.{is_misplaced}
use Rattle.message_table.specs.Seen.{mark_of}
use Rattle.message_table.proofs.form.first_misplaced.Given as goal

abbrev pub invariant-loop-mark : goal.invariant-loop-mark
invariant-loop-mark l = find (λ mark. is_misplaced mark.role) (map mark_of (drop l.mark-index l.marks)) ≡ find (λ mark. is_misplaced mark.role) (map mark_of l.marks)

use Rattle.std.proofs.Common.{◌≡◌, drop, map}
use Rattle.std.specs.Prelude.{find}
use Rattle.std.specs.Prelude.{bytes_eq}
use Rattle.message_table.specs.Seen.{mark_of}
use Rattle.message_table.proofs.names.same.Given as goal

abbrev pub invariant-loop-mark : goal.invariant-loop-mark
invariant-loop-mark l = find (λ mark. bytes_eq mark.word l.word) (map mark_of (drop l.mark-index l.marks)) ≡ find (λ mark. bytes_eq mark.word l.word) (map mark_of l.marks)

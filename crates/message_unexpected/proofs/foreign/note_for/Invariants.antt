use Rattle.std.proofs.Common.{◌≡◌, drop, map}
use Rattle.std.specs.Prelude.{bytes_eq, find}
use Rattle.message_unexpected.specs.Seen.{foreign_of}
use Rattle.message_unexpected.proofs.foreign.note_for.Given as goal

abbrev pub invariant-loop-foreign : goal.invariant-loop-foreign
invariant-loop-foreign l = find (λ foreign. bytes_eq foreign.word l.word) (map foreign_of (drop l.foreign-index l.foreigns)) ≡ find (λ foreign. bytes_eq foreign.word l.word) (map foreign_of l.foreigns)

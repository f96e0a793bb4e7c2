use Rattle.std.proofs.Common.{◌≡◌, drop, map}
use Rattle.std.specs.Prelude.{find, nat_eq}
use Rattle.std.specs.List.{starts_with}
use Rattle.message_program.specs.Seen.{hint_of}
use Rattle.message_program.proofs.notes.begun_note.Given as goal

abbrev pub invariant-loop-hint : goal.invariant-loop-hint
invariant-loop-hint l = find (λ hint. starts_with nat_eq l.bytes hint.bytes) (map hint_of (drop l.hint-index l.hints)) ≡ find (λ hint. starts_with nat_eq l.bytes hint.bytes) (map hint_of l.hints)

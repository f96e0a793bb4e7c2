use Rattle.std.proofs.Common.{◌≡◌, ◌-◌, ◌++◌, codes}
use Rattle.text_fields.specs.Front.{begins, front}
use Rattle.asm_lines.specs.Names.{event_read}
use Rattle.assembler.specs.Sections.{events_read, rows_read}
use Rattle.assembler.proofs.RowLoop.{in_front}
use Rattle.assembler.proofs.names.events_at.Given as goal

abbrev pub invariant-loop : goal.invariant-loop
invariant-loop l = record {
  so_far : in_front l.events (rows_read (begins (codes "event ")) (λ earlier. event_read (l.initial.taken ++ earlier)) (λ earlier. event_read (l.initial.taken ++ earlier)) l.events (64 - l.counter) (front l.place)) ≡ events_read l.initial.taken (front l.at);
  taken : l.taken ≡ l.initial.taken ++ l.events;
}

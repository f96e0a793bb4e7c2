use Rattle.std.proofs.Common.{◌≡◌, ◌-◌, ◌++◌, codes, length, map}
use Rattle.std.specs.List.{zip}
use Rattle.image.specs.Raw.{process_of}
use Rattle.image_reader.specs.File.{used_by}
use Rattle.text_fields.specs.Front.{begins, front}
use Rattle.asm_lines.specs.Processes.{process_line_read, process_read}
use Rattle.assembler.specs.Sections.{processes_read, rows_read}
use Rattle.assembler.proofs.RowLoop.{in_front}
use Rattle.assembler.proofs.work.processes_at.Given as goal

abbrev pub invariant-loop : goal.invariant-loop
invariant-loop l = record {
  so_far : in_front (zip l.names (map process_of l.things)) (rows_read (begins (codes "process ")) (λ earlier. process_read l.monitors l.events (l.initial.taken ++ map (λ p. p.0) earlier) (used_by earlier)) (λ earlier. process_line_read l.events (l.initial.taken ++ map (λ p. p.0) earlier) (used_by earlier)) (zip l.names (map process_of l.things)) (64 - l.counter) (front l.place)) ≡ processes_read l.monitors l.events l.initial.taken (front l.at);
  taken : l.taken ≡ l.initial.taken ++ l.names;
  each : length l.names ≡ length l.things;
  used : l.used ≡ used_by (zip l.names (map process_of l.things));
}

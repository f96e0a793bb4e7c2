use Rattle.std.proofs.Common.{◌≡◌, ◌-◌, ◌++◌, codes, length, map}
use Rattle.std.specs.List.{zip}
use Rattle.image.specs.Raw.{monitor_of}
use Rattle.text_fields.specs.Front.{begins, front}
use Rattle.asm_lines.specs.Names.{monitor_read}
use Rattle.assembler.specs.Sections.{monitors_read, rows_read}
use Rattle.assembler.proofs.RowLoop.{in_front}
use Rattle.assembler.proofs.names.monitors_at.Given as goal

abbrev pub invariant-loop : goal.invariant-loop
invariant-loop l = record {
  so_far : in_front (zip l.names (map monitor_of l.things)) (rows_read (begins (codes "monitor ")) (λ earlier. monitor_read (l.initial.taken ++ map (λ m. m.0) earlier)) (λ earlier. monitor_read (l.initial.taken ++ map (λ m. m.0) earlier)) (zip l.names (map monitor_of l.things)) (64 - l.counter) (front l.place)) ≡ monitors_read l.initial.taken (front l.at);
  taken : l.taken ≡ l.initial.taken ++ l.names;
  each : length l.names ≡ length l.things;
}

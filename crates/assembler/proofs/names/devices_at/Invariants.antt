use Rattle.std.proofs.Common.{◌≡◌, ◌-◌, ◌++◌, codes, map}
use Rattle.text_fields.specs.Front.{begins, front}
use Rattle.asm_lines.specs.Names.{device_read}
use Rattle.assembler.specs.Sections.{devices_read, rows_read}
use Rattle.assembler.proofs.RowLoop.{in_front}
use Rattle.assembler.proofs.names.devices_at.Given as goal

abbrev pub invariant-loop : goal.invariant-loop
invariant-loop l = record {
  so_far : in_front l.devices (rows_read (begins (codes "device ")) (λ earlier. device_read (l.initial.taken ++ map (λ d. d.name) earlier)) (λ earlier. device_read (l.initial.taken ++ map (λ d. d.name) earlier)) l.devices (64 - l.counter) (front l.place)) ≡ devices_read l.initial.taken (front l.at);
  taken : l.taken ≡ l.initial.taken ++ map (λ d. d.name) l.devices;
}

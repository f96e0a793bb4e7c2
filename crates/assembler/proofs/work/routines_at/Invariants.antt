use Rattle.std.proofs.Common.{◌≡◌, ◌-◌, codes, map}
use Rattle.image.specs.Raw.{routine_of}
use Rattle.text_fields.specs.Front.{begins, front}
use Rattle.asm_lines.specs.Routines.{routine_line_read, routine_read}
use Rattle.assembler.specs.Sections.{routines_read, rows_read}
use Rattle.assembler.proofs.RowLoop.{in_front}
use Rattle.assembler.proofs.work.routines_at.Given as goal

abbrev pub invariant-loop : goal.invariant-loop
invariant-loop l = in_front (map routine_of l.routines) (rows_read (begins (codes "routine ")) (λ earlier. routine_read l.owners l.monitors) (λ earlier. routine_line_read l.owners l.monitors) (map routine_of l.routines) (512 - l.counter) (front l.place)) ≡ routines_read l.owners l.monitors (front l.at)

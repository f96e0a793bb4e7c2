use Rattle.std.proofs.Common.{◌≡◌, ◌-◌, codes}
use Rattle.text_fields.specs.Front.{begins, front}
use Rattle.asm_lines.specs.Names.{condition_read}
use Rattle.assembler.specs.Sections.{conditions_read, rows_read}
use Rattle.assembler.proofs.RowLoop.{in_front}
use Rattle.assembler.proofs.names.conditions_at.Given as goal

abbrev pub invariant-loop : goal.invariant-loop
invariant-loop l = in_front l.conditions (rows_read (begins (codes "condition ")) (condition_read l.taken l.monitors) (condition_read l.taken l.monitors) l.conditions (256 - l.counter) (front l.place)) ≡ conditions_read l.taken l.monitors (front l.at)

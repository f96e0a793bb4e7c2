use Rattle.std.proofs.Common.{◌≡◌, ◌-◌, []}
use Rattle.std.specs.Prelude.{not}
use Rattle.text_fields.specs.Front.{front}
use Rattle.asm_lines.specs.Instrs.{instr_read}
use Rattle.assembler.specs.Sections.{is_end, rows_read}
use Rattle.assembler.proofs.RowLoop.{in_front}
use Rattle.assembler.proofs.code.code_at.Given as goal

abbrev pub invariant-loop : goal.invariant-loop
invariant-loop l = in_front l.code (rows_read (λ bytes. not (is_end bytes)) (λ earlier. instr_read) (λ earlier. instr_read) l.code (65535 - l.counter) (front l.place)) ≡ rows_read (λ bytes. not (is_end bytes)) (λ earlier. instr_read) (λ earlier. instr_read) [] 65535 (front l.at)

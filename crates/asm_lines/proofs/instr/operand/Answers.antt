use Rattle.asm_lines.specs.Instrs.{operand_read}
use Rattle.asm_lines.proofs.instr.operand.Goals as goal

pub returns : goal.returns
unfolding operand_read
returns c = rw (c.if-not-is_named.false, c.in_ok-at.ensures) c.signed.ensures

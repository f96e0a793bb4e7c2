use Rattle.asm_lines.proofs.routine.cost.Goals as goal

pub returns : goal.returns
returns c = c.field.ensures.read

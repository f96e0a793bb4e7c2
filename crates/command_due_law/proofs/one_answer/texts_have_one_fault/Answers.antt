use Rattle.command_due_law.proofs.Texts.{texts_have_one_fault}
use Rattle.command_due_law.proofs.one_answer.texts_have_one_fault.Goals as goal

pub returns : goal.returns
returns c = texts_have_one_fault c.one_program.ensures c.program_or_fault.ensures c.one_fault.ensures

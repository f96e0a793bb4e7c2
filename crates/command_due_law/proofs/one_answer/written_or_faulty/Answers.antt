use Rattle.command_due_law.proofs.Texts.{written_or_faulty}
use Rattle.command_due_law.proofs.one_answer.written_or_faulty.Goals as goal

pub returns : goal.returns
returns c = written_or_faulty c.one_program.ensures c.program_or_fault.ensures

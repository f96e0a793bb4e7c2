use Rattle.command_due_law.proofs.Texts.{written_once}
use Rattle.command_due_law.proofs.one_answer.written_once.Goals as goal

pub returns : goal.returns
returns c = written_once c.one_program.ensures

use Rattle.command_due_law.proofs.Commands.{print_is_one}
use Rattle.command_due_law.proofs.one_answer.print_is_one.Goals as goal

pub returns : goal.returns
returns c = print_is_one c.written_once.ensures c.written_or_faulty.ensures c.texts_have_one_fault.ensures

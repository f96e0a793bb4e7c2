use Rattle.command_due_law.proofs.Texts.{refusals_are_one}
use Rattle.command_due_law.proofs.one_answer.refusals_are_one.Goals as goal

pub returns : goal.returns
returns c = refusals_are_one c.written_or_faulty.ensures c.texts_have_one_fault.ensures c.late_reports_are_one.ensures

use Rattle.command_due_law.proofs.Texts.{late_reports_are_one}
use Rattle.command_due_law.proofs.one_answer.late_reports_are_one.Goals as goal

pub returns : goal.returns
returns c = late_reports_are_one c.written_once.ensures c.tables_are_one.ensures

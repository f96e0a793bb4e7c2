use Rattle.command_due_law.proofs.Tables.{table_one}
use Rattle.command_due_law.proofs.one_answer.table_is_one.Goals as goal

pub returns : goal.returns
returns c = table_one c.texts_are_one_table.ensures c.tables_have_no_fault.ensures c.faults_are_one.ensures

use Rattle.std.proofs.Common.{◌≡◌, false}
use Rattle.table_format.specs.Faults.{meant}
use Rattle.table_reader.specs.Judging.{is_task_taken}
use Rattle.table_reader.specs.Reading.{line_seen}
use Rattle.table_reader.proofs.Taken.{taken_by, taken_first}
use Rattle.table_reader.proofs.judge.has_taken_name.Goals as goal

pub returns-then-is_task_taken : goal.returns-then-is_task_taken
returns-then-is_task_taken c =
    taken_first c.args.table.now c.args.line.now c.is_task_taken.result c.if-is_task_taken.true c.is_task_taken.ensures

pub returns-else-is_task_taken : goal.returns-else-is_task_taken
returns-else-is_task_taken c =
    let no : false ≡ is_task_taken c.args.table.now (meant (line_seen c.args.line.now)) = cc in
    taken_by c.args.table.now c.args.line.now c.as_slice.result.now false c.is_monitor_taken.result no c.as_slice.ensures.value c.is_monitor_taken.ensures

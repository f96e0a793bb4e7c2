use Rattle.std.proofs.Common.{◌≡◌, false}
use Rattle.table_format.specs.Rules.{names_of_tasks}
use Rattle.table_reader.specs.Judging.{is_among}
use Rattle.table_reader.proofs.Taken.{among_second}
use Rattle.table_reader.proofs.judge.is_of_table.Goals as goal

pub returns-else-is_of_tasks : goal.returns-else-is_of_tasks
returns-else-is_of_tasks c =
    let none : false ≡ is_among (names_of_tasks c.args.table.now) c.args.name.now = cc in
    among_second c.args.table.now c.args.name.now c.as_slice.result.now c.is_of_monitors.result none c.as_slice.ensures c.is_of_monitors.ensures

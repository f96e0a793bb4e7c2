use Rattle.std.proofs.Common.{◌≡◌, false}
use Rattle.table_format.specs.Rules.{same_name}
use Rattle.table_reader.proofs.Taken.{among_tasks}
use Rattle.table_reader.proofs.judge.is_of_tasks.Goals as goal

pub returns-else-eq : goal.returns-else-eq
returns-else-eq c =
    let other : same_name c.as_bytes.result.now c.args.name.now ≡ false = cc in
    among_tasks c.args.table.now c.args.name.now c.as_bytes.result.now c.as_slice.result.now c.is_of_lines.result c.as_bytes.ensures other c.as_slice.ensures c.is_of_lines.ensures

use Rattle.std.proofs.Common.{◌+◌, arith}
use Rattle.table_reader.specs.Reading.{line_seen}
use Rattle.table_reader.proofs.Answered.{added, crowded}
use Rattle.table_reader.proofs.Blamed.{blamed}
use Rattle.table_reader.proofs.read.add_line.Goals as goal

pub returns-then-not-branch-clause-err : goal.returns-then-not-branch-clause-err
returns-then-not-branch-clause-err c =
    blamed c.args.table.now (line_seen c.args.words.now) c.bad.result 6 (c.len-line.result + 2) c.bad.ensures (omega arith)
    (crowded c.args.table.now (line_seen c.args.words.now) c.in_ok-task.task c.push.new.self c.in_ok-is_small.field-0 c.in_ok-task.ensures c.in_ok-push.ensures.ok c.if-not-branch.true c.in_ok-is_small.ensures)

pub returns-clause-ok : goal.returns-clause-ok
returns-clause-ok c =
    added c.args.table.now (line_seen c.args.words.now) c.in_ok-task.task c.push.new.self c.in_ok-is_small.field-0 c.requires.begun c.in_ok-task.ensures c.in_ok-push.ensures.ok c.if-not-branch.false c.in_ok-is_small.ensures

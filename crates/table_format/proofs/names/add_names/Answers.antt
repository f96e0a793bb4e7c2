use Rattle.std.proofs.Common.{List, length, ◌≤◌, arith, refl}
use Rattle.std.specs.Prelude.{flat_map}
use Rattle.table_format.specs.declared.table.TaskLine.{TaskLine}
use Rattle.table_format.specs.Rules.{task_names}
use Rattle.table_format.specs.Parts.{seen}
use Rattle.table_format.proofs.Turns.{turned, ended}
use Rattle.table_format.proofs.names.add_names.Goals as goal

pub loop-task-preserved : goal.loop-task-preserved
loop-task-preserved c =
    turned (λ (ys : List TaskLine). flat_map task_names ys) c.args.tasks.now c.loop-task.task-index c.task-item.result (task_names c.task-item.result) (seen c.loop-task.all.items) (seen c.add_task_names.new.all.items) _ (refl) c.loop-task-test.true c.task-item.is
    c.loop-task.invariant (c.in_ok-add_task_names.ensures)

pub returns : goal.returns
returns c =
    let all : length c.args.tasks.now ≤ c.loop-task.task-index = omega (arith, c.loop-task-test.false) in
    ended (λ (ys : List TaskLine). flat_map task_names ys) c.args.tasks.now c.loop-task.task-index (seen c.loop-task.all.items) _ (refl) all c.loop-task.invariant

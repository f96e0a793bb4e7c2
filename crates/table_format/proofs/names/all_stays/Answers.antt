use Rattle.std.proofs.Common.{◌++◌, ◌∙◌, ap, List, length, ◌≤◌, arith, refl}
use Rattle.std.specs.Prelude.{flat_map}
use Rattle.table_format.specs.declared.table.TaskLine.{TaskLine}
use Rattle.table_format.specs.Parts.{seen}
use Rattle.table_format.proofs.Turns.{turned, ended}
use Rattle.table_format.proofs.names.all_stays.Goals as goal

pub loop-task-preserved : goal.loop-task-preserved
loop-task-preserved c =
    turned (λ (ys : List TaskLine). flat_map (λ p. p.stays) ys) c.args.tasks.now c.loop-task.task-index c.task-item.result (c.task-item.result.stays) (seen c.loop-task.all.items) (seen c.add_stays.new.all.items) _ (refl) c.loop-task-test.true c.task-item.is
    c.loop-task.invariant (c.in_ok-add_stays.ensures ∙ ap (λ s. seen c.loop-task.all.items ++ s) c.as_slice.ensures)

pub returns : goal.returns
returns c =
    let all : length c.args.tasks.now ≤ c.loop-task.task-index = omega (arith, c.loop-task-test.false) in
    ended (λ (ys : List TaskLine). flat_map (λ p. p.stays) ys) c.args.tasks.now c.loop-task.task-index (seen c.loop-task.all.items) _ (refl) all c.loop-task.invariant

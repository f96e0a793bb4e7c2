use Rattle.std.proofs.Common.{map, drop, ◌∷◌, [], List, length, ◌≤◌, arith, ◌+◌}
use Rattle.syntax_tree.specs.Placed.{process}
use Rattle.table_format.specs.declared.table.TaskLine.{TaskLine}
use Rattle.table_format.specs.Program.{table_process}
use Rattle.table_format.specs.Parts.{declarations_text}
use Rattle.table_format.proofs.Texts.{declarations_none, declarations_both}
use Rattle.table_format.proofs.Turns.{turned, ended}
use Rattle.table_format.proofs.text.add_processes.Goals as goal

pub loop-task-preserved : goal.loop-task-preserved
loop-task-preserved c =
    turned (λ (ys : List TaskLine). declarations_text (map (λ p. process (table_process c.args.tail.now p)) ys)) c.args.tasks.now c.loop-task.task-index c.task-item.result (declarations_text (process (table_process c.args.tail.now c.task-item.result) ∷ [])) (c.loop-task.text) (c.add_process.new.text) _ (declarations_both (process (table_process c.args.tail.now c.task-item.result) ∷ []) (map (λ p. process (table_process c.args.tail.now p)) (drop (c.loop-task.task-index + 1) c.args.tasks.now))) c.loop-task-test.true c.task-item.is
    c.loop-task.invariant (c.in_ok-add_process.ensures)

pub returns : goal.returns
returns c =
    let all : length c.args.tasks.now ≤ c.loop-task.task-index = omega (arith, c.loop-task-test.false) in
    ended (λ (ys : List TaskLine). declarations_text (map (λ p. process (table_process c.args.tail.now p)) ys)) c.args.tasks.now c.loop-task.task-index (c.loop-task.text) _ (declarations_none) all c.loop-task.invariant

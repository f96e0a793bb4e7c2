use Rattle.std.proofs.Common.{drop, List, length, ◌≤◌, arith, ◌+◌}
use Rattle.std.specs.Prelude.{flat_map}
use Rattle.table_format.specs.declared.table.TaskLine.{TaskLine}
use Rattle.table_format.specs.Program.{event_of}
use Rattle.table_format.specs.Parts.{declarations_text}
use Rattle.table_format.proofs.Texts.{declarations_none, declarations_both}
use Rattle.table_format.proofs.Turns.{turned, ended}
use Rattle.table_format.proofs.text.add_events.Goals as goal

pub loop-task-preserved : goal.loop-task-preserved
loop-task-preserved c =
    turned (λ (ys : List TaskLine). declarations_text (flat_map (λ p. event_of p.event) ys)) c.args.tasks.now c.loop-task.task-index c.task-item.result (declarations_text (event_of c.task-item.result.event)) (c.loop-task.text) (c.add_event.new.text) _ (declarations_both (event_of c.task-item.result.event) (flat_map (λ p. event_of p.event) (drop (c.loop-task.task-index + 1) c.args.tasks.now))) c.loop-task-test.true c.task-item.is
    c.loop-task.invariant (c.in_ok-add_event.ensures)

pub returns : goal.returns
returns c =
    let all : length c.args.tasks.now ≤ c.loop-task.task-index = omega (arith, c.loop-task-test.false) in
    ended (λ (ys : List TaskLine). declarations_text (flat_map (λ p. event_of p.event) ys)) c.args.tasks.now c.loop-task.task-index (c.loop-task.text) _ (declarations_none) all c.loop-task.invariant

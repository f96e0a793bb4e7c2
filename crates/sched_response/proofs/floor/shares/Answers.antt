use Rattle.std.proofs.Common.{◌<◌, length, get_or, arith}
use Rattle.sched_response.specs.declared.tasks.Task.{Task}
use Rattle.sched_response.specs.Demand.{IsTask}
use Rattle.sched_response.proofs.Shares.{shares_more}
use Rattle.sched_response.proofs.floor.shares.Goals as goal

pub loop-task-preserved : goal.loop-task-preserved
loop-task-preserved c =
    let ts = c.args.tasks.now in
    let i = c.loop-task.task-index in
    let none : Task = record { frame = 0; deadline = 0; run = 0; susp = 0; waits = 0; block = 0 } in
    let within : i < length ts = omega (arith, c.loop-task-test.true) in
    let is : IsTask (get_or ts i none) = c.requires.tasks i none within in
    record {
      less = shares_more 17179869184 c.args.block ts i c.loop-task.total c.share-total.result none within (omega (arith, is.frame_low)) c.share-total.ensures.less c.loop-task.invariant.less;
      range = omega (arith, c.loop-task.invariant.range, c.share-total.ensures.range);
    }

use Rattle.std.proofs.Common.{◌∙◌, ap, arith}
use Rattle.sched_response.specs.declared.tasks.Task.{Task}
use Rattle.sched_sections.specs.Load.{share}
use Rattle.sched_sections.proofs.Tasks.{all_shares, next_share}
use Rattle.sched_sections.proofs.sums.load_of.Goals as goal

pub loop-level-preserved : goal.loop-level-preserved
loop-level-preserved c = record {
  total = next_share c.args.levels.now c.loop-level.level c.loop-level.total c.share_of-total.result (omega (arith, c.loop-level-test.true)) c.loop-level.invariant.total (c.share_of-total.ensures.value ∙ ap (λ (t : Task). share t) c.task_of.ensures.value);
  range = omega (arith, c.loop-level.invariant.range, c.share_of-total.ensures.range);
}

pub returns : goal.returns
returns c = all_shares c.args.levels.now c.loop-level.level c.loop-level.total (omega (arith, c.loop-level-test.false)) c.loop-level.invariant.total

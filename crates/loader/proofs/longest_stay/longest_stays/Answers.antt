use Rattle.std.proofs.Common.{arith, []}
use Rattle.std.proofs.lemmas.Grind.{common_steps}
use Rattle.base.proofs.Lists.{one_more}
use Rattle.image.specs.Raw.{image_of}
use Rattle.loader.specs.Stays.{AreStaysOfProcesses}
use Rattle.loader.proofs.longest_stay.longest_stays.Goals as goal

pub loop-monitor-preserved : goal.loop-monitor-preserved
loop-monitor-preserved c = record {
  one_each = grind (arith, common_steps);
  each = one_more (λ m row. AreStaysOfProcesses (image_of c.args.image.now) m row) c.loop-monitor.by_monitor c.push.new.self c.in_ok-of_processes.field-0 [] c.loop-monitor.monitor c.loop-monitor.invariant.one_each c.in_ok-push.ensures.ok
      c.loop-monitor.invariant.each c.in_ok-of_processes.ensures;
}

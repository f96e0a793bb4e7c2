use Rattle.std.proofs.Common.{arith, refl}
use Rattle.base.proofs.Lists.{one_of}
use Rattle.vm_releases.proofs.Boards.{as_many}
use Rattle.vm_releases.specs.Begin.{script_of}
use Rattle.vm_chart.specs.Follows.{IsFresh}
use Rattle.vm_chart.proofs.Tracing.{fresh_is}
use Rattle.vm_chart.proofs.course.Course.new.Goals as goal

pub returns-clause-follows : goal.returns-clause-follows
returns-clause-follows g c = λ columns. record {
  stands = c.in_ok-machine.ensures.stands;
  count = omega (arith, c.in_ok-traces.ensures.count, as_many g.image.processes c.args.plan.now.processes.items c.requires.0.processes, c.args.plan.now.processes.ok.0);
  each = λ k x at. fresh_is (record { image = g.image; script = script_of c.args.script.now; columns = columns; column = 0 }) k c.in_ok-machine.machine.tick x refl c.in_ok-machine.ensures.start
      (one_of IsFresh c.in_ok-traces.traces.items k x c.in_ok-traces.ensures.fresh at);
}

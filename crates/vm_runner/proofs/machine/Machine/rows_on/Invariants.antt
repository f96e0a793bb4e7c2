use Rattle.std.proofs.Common.{◌≡◌, ◌≤◌, ◌-◌, ◌++◌}
use Rattle.vm_runner.specs.Course.{course, events_between}
use Rattle.vm_runner.specs.Dispatching.{Between}
use Rattle.vm_runner.specs.Standing.{Stands}
use Rattle.vm_runner.proofs.machine.Machine.rows_on.Given as goal

abbrev pub ghost-row_on : goal.ghost-row_on
ghost-row_on g a = g.run

abbrev pub invariant-loop-self : goal.invariant-loop-self
invariant-loop-self g l = record {
  stands : Stands g.D.Dispatch.behaviour g.D.Dispatch.Knows g.run.image g.run.script Between l.self;
  passed : l.fn.self.tick ≤ l.self.tick;
  within : l.self.tick ≤ l.limit;
  events : l.self.fired.items ≡ l.fn.self.fired.items ++ events_between (course g.D.Dispatch.behaviour g.run.image g.run.script) l.fn.self.tick l.self.tick;
}

abbrev pub decreases-loop-self : goal.decreases-loop-self
decreases-loop-self g l = l.limit - l.self.tick

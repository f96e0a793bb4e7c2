use Rattle.std.proofs.Common.{◌≤◌, ◌-◌}
use Rattle.vm_chart.specs.Follows.{Follows}
use Rattle.vm_chart.proofs.course.Course.go_to.Given as goal

abbrev pub ghost-row : goal.ghost-row
ghost-row g a = g.drawing

abbrev pub invariant-loop-self : goal.invariant-loop-self
invariant-loop-self g l = record {
  follows : Follows g.drawing l.self;
  within : l.self.machine.tick ≤ l.tick;
}

abbrev pub decreases-loop-self : goal.decreases-loop-self
decreases-loop-self g l = l.tick - l.self.machine.tick

use Rattle.std.proofs.Common.{◌≤◌, ◌-◌}
use Rattle.vm_chart.specs.Follows.{Follows, begins}
use Rattle.vm_chart.proofs.course.Course.draw_to.Given as goal

abbrev pub ghost-turn : goal.ghost-turn
ghost-turn g a = g.drawing

abbrev pub ghost-end_all : goal.ghost-end_all
ghost-end_all g a = g.drawing

abbrev pub invariant-loop-self : goal.invariant-loop-self
invariant-loop-self g l = record {
  follows : Follows g.drawing l.self;
  from : begins g.drawing ≤ l.self.machine.tick;
  within : l.self.machine.tick ≤ l.end;
}

abbrev pub decreases-loop-self : goal.decreases-loop-self
decreases-loop-self g l = l.end - l.self.machine.tick

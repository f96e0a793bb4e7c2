use Rattle.std.proofs.Common.{◌≤◌, ◌-◌}
use Rattle.vm_releases.specs.Begin.{script_of}
use Rattle.vm_watch.specs.Follows.{Follows}
use Rattle.vm_watch.proofs.course.Course.go_to.Given as goal

abbrev pub ghost-turn : goal.ghost-turn
ghost-turn g a = g.image

abbrev pub invariant-loop-self : goal.invariant-loop-self
invariant-loop-self g l = record {
  follows : Follows g.image (script_of l.script) l.self;
  within : l.self.machine.tick ≤ l.tick;
}

abbrev pub decreases-loop-self : goal.decreases-loop-self
decreases-loop-self g l = l.tick - l.self.machine.tick

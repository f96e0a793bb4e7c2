use Rattle.std.proofs.Common.{◌≡◌}
use Rattle.replay_next.specs.Driving.{running_run, running_weight}
use Rattle.replay_next.proofs.driving.run_on.Given as goal

abbrev pub invariant-steps : goal.invariant-steps
invariant-steps l = running_run l.scope l.running l.step l.memory ≡ running_run l.scope l.fn.running l.fn.first l.fn.memory

abbrev pub decreases-steps : goal.decreases-steps
decreases-steps l = running_weight l.scope l.running l.step

use Rattle.std.proofs.Common.{◌∙◌, ap, sym}
use Rattle.replay_next.specs.Driving.{driven_run}
use Rattle.replay_next.specs.declared.remains.Driven.{Driven}
use Rattle.replay_next.proofs.driving.run_on.Goals as goal

pub returns-in-Over : goal.returns-in-Over
returns-in-Over c =
    let is = ap (λ (d : Driven). driven_run c.args.scope.now c.drive.new.running d c.drive.new.memory) c.in-Over.is in
    sym is ∙ (c.in_ok-came.ensures.run ∙ c.steps.invariant)

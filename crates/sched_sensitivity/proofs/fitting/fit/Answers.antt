use Rattle.std.proofs.Common.{List, subst, sym}
use Rattle.sched_response.specs.declared.tasks.Task.{Task}
use Rattle.sched_sensitivity.specs.Slack.{IsTimely}
use Rattle.sched_sensitivity.specs.Fit.{with_number}
use Rattle.sched_sensitivity.proofs.fitting.fit.Goals as goal

pub greatest_fit-requires-clause-zero : goal.greatest_fit-requires-clause-zero
greatest_fit-requires-clause-zero g c =
    subst (λ (us : List Task). IsTimely (with_number c.args.number us c.args.level 0)) (sym c.fits.ensures.kept) (c.fits.ensures.fits.0 c.if-not-fits.false)

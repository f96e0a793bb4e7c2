use Rattle.sched_sensitivity.proofs.Answered.{not_timely_by, timely_by}
use Rattle.sched_sensitivity.proofs.spare.slack.Goals as goal

pub returns-then-is_some-clause-none : goal.returns-then-is_some-clause-none
returns-then-is_some-clause-none g c = not_timely_by c.args.set.now c.first_failing.result c.if-is_some.ensures c.first_failing.ensures.some

pub spare_of_timely-requires-clause-timely : goal.spare_of_timely-requires-clause-timely
spare_of_timely-requires-clause-timely g c = timely_by c.args.set.now c.first_failing.result c.if-is_some.ensures c.first_failing.ensures.none

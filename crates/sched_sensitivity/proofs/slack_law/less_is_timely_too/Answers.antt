use Rattle.sched_sensitivity.proofs.More.{timely_falls}
use Rattle.sched_sensitivity.proofs.slack_law.less_is_timely_too.Goals as goal

pub returns : goal.returns
returns c = timely_falls

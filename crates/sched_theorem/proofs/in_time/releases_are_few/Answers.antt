use Rattle.sched_theorem.proofs.Releases.{releases_ceil}
use Rattle.sched_theorem.proofs.in_time.releases_are_few.Goals as goal

pub returns : goal.returns
returns c = λ frame end released start ticks pos spaced within. releases_ceil frame end released start ticks pos spaced within

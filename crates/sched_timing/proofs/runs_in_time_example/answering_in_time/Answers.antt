use Rattle.sched_timing.proofs.Answering.{answering_is_timed, answering_is_in_time}
use Rattle.sched_timing.proofs.runs_in_time_example.answering_in_time.Goals as goal

pub returns-clause-timed : goal.returns-clause-timed
returns-clause-timed c = answering_is_timed

pub returns-clause-in_time : goal.returns-clause-in_time
returns-clause-in_time c = answering_is_in_time

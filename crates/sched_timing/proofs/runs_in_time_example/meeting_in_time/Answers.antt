use Rattle.sched_timing.proofs.TimedMeeting.{meeting_is_timed, meeting_is_in_time}
use Rattle.sched_timing.proofs.runs_in_time_example.meeting_in_time.Goals as goal

pub returns-clause-timed : goal.returns-clause-timed
returns-clause-timed c = meeting_is_timed c.meeting_code.result

pub returns-clause-in_time : goal.returns-clause-in_time
returns-clause-in_time c = meeting_is_in_time c.meeting_code.result c.meeting_code.ensures.fits

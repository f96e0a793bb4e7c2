use Rattle.sched_timing.proofs.TimedUsesMeeting.{meeting_is_defined}
use Rattle.sched_timing.proofs.uses_in_time_example.meeting_is_defined.Goals as goal

pub returns : goal.returns
returns c = meeting_is_defined c.meeting_code.result

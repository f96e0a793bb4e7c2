-- The law, from those of whole runs and of time.
use Rattle.code_lifting.specs.Compiled.{script_of}
use Rattle.source_semantics_law.specs.Example.{signalled_wait}
use Rattle.machine_safety.specs.Example.{meeting_place, meeting_parts}
use Rattle.machine_safety.proofs.Meeting.{code, meeting_fits}
use Rattle.sched_timing.specs.Timed.{IsInTime}
use Rattle.sched_timing.proofs.TimedMeeting.{meeting_is_in_time}
use Rattle.code_lifting.proofs.Runs.{runs_are_source_runs}
use Rattle.code_lifting.proofs.Meeting.{meeting_is_image}
use Rattle.code_lifting.proofs.MeetingRight.{meeting_is_right}
use Rattle.examples_law.specs.Headline.{MeetingIsRightAndInTime}

pub meeting_is_right_and_in_time : MeetingIsRightAndInTime
meeting_is_right_and_in_time script ordered =
    let in_time : IsInTime (meeting_place 0 code).image (script_of script) = meeting_is_in_time code meeting_fits (script_of script) in
    (runs_are_source_runs (meeting_place 0 code) meeting_parts signalled_wait script (meeting_fits 0) (meeting_is_image 0) (meeting_is_right 0) ordered in_time.no_overrun, in_time)

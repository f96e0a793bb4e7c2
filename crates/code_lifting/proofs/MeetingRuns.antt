-- Every run of the example's image is a run of its program.
use Rattle.machine_safety.specs.Example.{meeting_place, meeting_parts}
use Rattle.machine_safety.proofs.Meeting.{code, meeting_fits}
use Rattle.source_semantics_law.specs.Example.{signalled_wait}
use Rattle.code_lifting.specs.Example.{MeetingRuns}
use Rattle.code_lifting.proofs.Meeting.{meeting_is_image}
use Rattle.code_lifting.proofs.MeetingRight.{meeting_is_right}
use Rattle.code_lifting.proofs.Runs.{runs_are_source_runs}

pub meeting_runs : MeetingRuns
meeting_runs over script ordered no_overrun =
    runs_are_source_runs (meeting_place over code) meeting_parts signalled_wait script (meeting_fits over) (meeting_is_image over) (meeting_is_right over) ordered no_overrun

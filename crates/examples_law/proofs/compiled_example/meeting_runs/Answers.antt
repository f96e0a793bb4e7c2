use Rattle.code_lifting.proofs.MeetingRuns.{meeting_runs}
use Rattle.examples_law.proofs.compiled_example.meeting_runs.Goals as goal

pub returns : goal.returns
returns c = meeting_runs

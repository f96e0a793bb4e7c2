use Rattle.machine_safety.proofs.Meeting.{meeting_fits, meeting_is_safe}
use Rattle.machine_safety.proofs.example.meeting_code.Goals as goal

pub returns-clause-fits : goal.returns-clause-fits
returns-clause-fits c = meeting_fits

pub returns-clause-safe : goal.returns-clause-safe
returns-clause-safe c = meeting_is_safe

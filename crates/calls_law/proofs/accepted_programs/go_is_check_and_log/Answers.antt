use Rattle.calls_law.proofs.Accepted.{go_is}
use Rattle.calls_law.proofs.accepted_programs.go_is_check_and_log.Goals as goal

pub returns : goal.returns
returns c = go_is

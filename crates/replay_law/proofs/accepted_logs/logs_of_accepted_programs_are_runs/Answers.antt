use Rattle.replay_law.proofs.ReplayLawsReplayed.{logs_of_accepted_programs_are_runs}
use Rattle.replay_law.proofs.accepted_logs.logs_of_accepted_programs_are_runs.Goals as goal

pub returns : goal.returns
returns c = logs_of_accepted_programs_are_runs c.logs_of_runs_are_logs.ensures

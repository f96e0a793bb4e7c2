use Rattle.replay_law.proofs.Ticking.{valid_runs_fit}
use Rattle.replay_law.proofs.event_numbers_fit.valid_runs_fit.Goals as goal

pub returns : goal.returns
returns c = valid_runs_fit c.valid_operands_are_there.ensures c.valid_meets_premises.ensures

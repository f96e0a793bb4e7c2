use Rattle.sched_response.proofs.Capping.{demand-capped, demand-exact}
use Rattle.sched_response.proofs.response.capping_changes_no_answer.Goals as goal

pub returns-clause-demands : goal.returns-clause-demands
returns-clause-demands c = demand-exact

pub returns-clause-costs : goal.returns-clause-costs
returns-clause-costs c = demand-capped

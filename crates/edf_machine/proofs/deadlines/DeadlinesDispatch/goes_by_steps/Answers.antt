use Rattle.edf_machine.proofs.ByDeadlines.{chosen_again, goes_by_steps, known_again}
use Rattle.edf_machine.proofs.deadlines.DeadlinesDispatch.goes_by_steps.Goals as goal

pub returns-clause-steps : goal.returns-clause-steps
returns-clause-steps c image script can = goes_by_steps image script can

pub returns-clause-again : goal.returns-clause-again
returns-clause-again c run who can on = record {
  chosen = chosen_again run.image run.script can run.tick run.count who on;
  knows = λ d is. known_again run.image run.script can run.tick run.count who on d is;
}

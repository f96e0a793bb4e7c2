use Rattle.edf_machine.proofs.deadlines.DeadlinesDispatch.follow.Goals as goal

pub returns : goal.returns
returns c run it can = it.knows can run.count it.step

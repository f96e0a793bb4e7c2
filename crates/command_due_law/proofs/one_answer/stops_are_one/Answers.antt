use Rattle.command_due_law.proofs.Stops.{stops_are_one}
use Rattle.command_due_law.proofs.one_answer.stops_are_one.Goals as goal

pub returns : goal.returns
returns c = stops_are_one

use Rattle.examples_law.proofs.MadeWholeMeeting.{example_holds}
use Rattle.examples_law.proofs.code_of_program_example.an_example_holds.Goals as goal

pub returns : goal.returns
returns c = example_holds

use Rattle.calls_law.proofs.Printed.{has_program}
use Rattle.calls_law.proofs.printed_programs.printed_texts_have_the_program.Goals as goal

pub returns : goal.returns
returns c = has_program c.printed_trees_are_written.ensures

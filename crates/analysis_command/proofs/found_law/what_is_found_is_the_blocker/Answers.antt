use Rattle.analysis_command.proofs.Blocking.{found_is}
use Rattle.analysis_command.proofs.found_law.what_is_found_is_the_blocker.Goals as goal

pub returns : goal.returns
returns c = found_is c.routines_call_their_texts.ensures c.processes_call_their_texts.ensures c.ranks_are_of_the_meaning.ensures c.ceilings_are_of_the_meaning.ensures

use Rattle.compile.proofs.Whole.{well_formed_loops_fit}
use Rattle.compile.proofs.loop_bounds_fit.loops_of_well_formed_programs_fit.Goals as goal

pub returns : goal.returns
returns c = well_formed_loops_fit

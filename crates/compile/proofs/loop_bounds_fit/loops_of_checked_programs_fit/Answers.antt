use Rattle.compile.proofs.Whole.{checked_loops_fit}
use Rattle.compile.proofs.loop_bounds_fit.loops_of_checked_programs_fit.Goals as goal

pub returns : goal.returns
returns c =
    checked_loops_fit c.checked_programs_are_well_formed.ensures c.loops_of_well_formed_programs_fit.ensures

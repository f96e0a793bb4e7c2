use Rattle.codegen_law.proofs.Whole.{well_formed_fits}
use Rattle.codegen_law.proofs.operands_fit.well_formed_programs_fit.Goals as goal

pub returns : goal.returns
returns c = well_formed_fits

use Rattle.built_valid_law.proofs.Bounds.{least_bounds_are_bounds}
use Rattle.built_valid_law.proofs.image_of_program.least_bounds_are_bounds.Goals as goal

pub returns : goal.returns
returns c = least_bounds_are_bounds

use Rattle.valid_image_law.proofs.Walks.{found_walks}
use Rattle.valid_image_law.proofs.code_fits_tree.found_walks.Goals as goal

pub returns : goal.returns
returns c = found_walks

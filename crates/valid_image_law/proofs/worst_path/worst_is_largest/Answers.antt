use Rattle.valid_image_law.proofs.Largest.{worst_is_largest}
use Rattle.valid_image_law.proofs.worst_path.worst_is_largest.Goals as goal

pub returns : goal.returns
returns c = worst_is_largest

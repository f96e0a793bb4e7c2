use Rattle.syntax_tree.specs.Placed.{plain}
use Rattle.built_valid_law.proofs.valid_image_law_of_checked.checked_images_are_valid.Goals as goal

pub returns : goal.returns
returns c = λ g m is made. c.made_images_are_valid.ensures (plain g) m (c.checked_images_are_made.ensures g m is made) (c.checked_operands_are_in_range.ensures g m is made.code)

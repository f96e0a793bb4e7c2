use Rattle.built_image_law.proofs.Joined.{shaped_in_limits}
use Rattle.built_image_law.proofs.number_limits.shaped_images_are_in_limits.Goals as goal

pub returns : goal.returns
returns c =
    shaped_in_limits c.blocks_are_in_limits.ensures c.stacks_are_in_limits.ensures
    c.handlers_take_numbers.ensures c.entries_have_owners.ensures

use Rattle.image_loaded.proofs.Joined.{joined}
use Rattle.image_loaded.proofs.valid_read.every_valid_image_that_is_read_is_safe_and_in_time.Goals as goal

pub returns : goal.returns
returns c =
    joined c.images_read_are_in_their_ranges.ensures.limits
    c.every_valid_image_is_safe_and_in_time.ensures

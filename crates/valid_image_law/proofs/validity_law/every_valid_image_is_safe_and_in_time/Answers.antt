use Rattle.valid_image_law.proofs.Whole.{every_valid_image_is_safe_and_in_time}
use Rattle.valid_image_law.proofs.validity_law.every_valid_image_is_safe_and_in_time.Goals as goal

pub returns : goal.returns
returns c = every_valid_image_is_safe_and_in_time

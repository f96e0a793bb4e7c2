use Rattle.valid_image_law.proofs.Whole.{meeting_is_safe_and_in_time}
use Rattle.valid_image_law.proofs.validity_law.meeting_is_safe_and_in_time.Goals as goal

pub returns : goal.returns
returns c = meeting_is_safe_and_in_time

use Rattle.valid_image_law.proofs.Used.{meeting_is_used}
use Rattle.valid_image_law.proofs.declared_uses.meeting_is_used.Goals as goal

pub returns : goal.returns
returns c = meeting_is_used

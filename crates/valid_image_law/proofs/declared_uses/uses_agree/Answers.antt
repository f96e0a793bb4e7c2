use Rattle.valid_image_law.proofs.Agreeing.{uses_agree}
use Rattle.valid_image_law.proofs.declared_uses.uses_agree.Goals as goal

pub returns : goal.returns
returns c = uses_agree

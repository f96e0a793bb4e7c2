use Rattle.calls_law.proofs.Images.{dis_then_asm}
use Rattle.calls_law.proofs.texts_and_images.dis_then_asm_is_migrate.Goals as goal

pub returns : goal.returns
returns c = dis_then_asm c.asm_is_one.ensures

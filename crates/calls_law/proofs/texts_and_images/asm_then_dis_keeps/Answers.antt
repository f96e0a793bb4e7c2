use Rattle.calls_law.proofs.Images.{asm_then_dis}
use Rattle.calls_law.proofs.texts_and_images.asm_then_dis_keeps.Goals as goal

pub returns : goal.returns
returns c = asm_then_dis c.images_told_are_held.ensures c.dis_is_one.ensures

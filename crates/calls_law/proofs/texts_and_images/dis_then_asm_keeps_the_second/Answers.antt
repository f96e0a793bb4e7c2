use Rattle.calls_law.proofs.Images.{dis_then_asm_keeps}
use Rattle.calls_law.proofs.texts_and_images.dis_then_asm_keeps_the_second.Goals as goal

pub returns : goal.returns
returns c = dis_then_asm_keeps c.migrate_keeps_the_second.ensures c.dis_then_asm_is_migrate.ensures

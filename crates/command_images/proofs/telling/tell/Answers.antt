use Rattle.command_images.proofs.ImageFileTold.{tells}
use Rattle.command_images.proofs.telling.tell.Goals as goal

pub returns : goal.returns
returns c = tells c.args.text.now c.texts_read_are_of_images.ensures c.asm.result c.asm.ensures

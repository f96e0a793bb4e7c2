use Rattle.command_images.proofs.PrepareImagesTold.{has_names}
use Rattle.command_images.proofs.texts.read_bytes.Goals as goal

pub returns-clause-named : goal.returns-clause-named
returns-clause-named c = has_names c.args.bytes.now c.read_image.result c.read_image.ensures

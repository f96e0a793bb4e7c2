use Rattle.image_reader_law.proofs.Names.{read_names}
use Rattle.image_reader_law.proofs.named_parts.images_read_are_named.Goals as goal

pub returns : goal.returns
returns c = read_names

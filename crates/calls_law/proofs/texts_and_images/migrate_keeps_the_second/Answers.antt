use Rattle.calls_law.proofs.Images.{migrate_keeps}
use Rattle.calls_law.proofs.texts_and_images.migrate_keeps_the_second.Goals as goal

pub returns : goal.returns
returns c = migrate_keeps c.images_read_are_written.ensures c.migrate_is_one.ensures

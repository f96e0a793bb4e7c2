use Rattle.command_due_law.proofs.Texts.{timely_texts_have_one_image}
use Rattle.command_due_law.proofs.one_answer.timely_texts_have_one_image.Goals as goal

pub returns : goal.returns
returns c = timely_texts_have_one_image c.written_once.ensures c.built_images_are_one.ensures

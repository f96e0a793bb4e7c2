use Rattle.command_due_law.proofs.Words.{answers_one}
use Rattle.command_due_law.proofs.one_judgement.answers_of_texts_are_one.Goals as goal

pub returns : goal.returns
returns c = answers_one c.written_once.ensures c.edf_images_are_one.ensures c.answers_are_one.ensures

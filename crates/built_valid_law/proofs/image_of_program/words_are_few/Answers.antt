use Rattle.built_valid_law.proofs.Words.{words_are_few}
use Rattle.built_valid_law.proofs.image_of_program.words_are_few.Goals as goal

pub returns : goal.returns
returns c = words_are_few

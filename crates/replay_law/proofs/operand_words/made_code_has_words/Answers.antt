use Rattle.replay_law.proofs.Programs.{made_code_has_words}
use Rattle.replay_law.proofs.operand_words.made_code_has_words.Goals as goal

pub returns : goal.returns
returns c = made_code_has_words

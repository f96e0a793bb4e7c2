use Rattle.built_valid_law.proofs.Tables.{monitors_have_words}
use Rattle.built_valid_law.proofs.variable_areas.monitors_have_words.Goals as goal

pub returns : goal.returns
returns c = monitors_have_words

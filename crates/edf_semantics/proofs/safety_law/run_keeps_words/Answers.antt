use Rattle.edf_semantics.proofs.Keeping.{run_keeps_words}
use Rattle.edf_semantics.proofs.safety_law.run_keeps_words.Goals as goal

pub returns : goal.returns
returns c = run_keeps_words

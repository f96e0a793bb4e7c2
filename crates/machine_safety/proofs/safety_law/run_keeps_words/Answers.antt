use Rattle.machine_safety.proofs.Keeping.{run_keeps_words}
use Rattle.machine_safety.proofs.safety_law.run_keeps_words.Goals as goal

pub returns : goal.returns
returns c = run_keeps_words

use Rattle.codegen_law.proofs.SoundLemmas.{routines_have_numbers}
use Rattle.codegen_law.proofs.sound_texts.routines_have_numbers.Goals as goal

pub returns : goal.returns
returns c = routines_have_numbers

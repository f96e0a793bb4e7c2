use Rattle.codegen_law.proofs.SoundLemmas.{well_formed_programs_are_sound}
use Rattle.codegen_law.proofs.sound_texts.well_formed_programs_are_sound.Goals as goal

pub returns : goal.returns
returns c = well_formed_programs_are_sound

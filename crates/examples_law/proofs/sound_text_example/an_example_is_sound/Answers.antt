use Rattle.examples_law.proofs.SoundExample.{example_is_sound}
use Rattle.examples_law.proofs.sound_text_example.an_example_is_sound.Goals as goal

pub returns : goal.returns
returns c = example_is_sound

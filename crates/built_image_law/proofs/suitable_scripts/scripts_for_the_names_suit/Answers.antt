use Rattle.built_image_law.proofs.Suiting.{scripts_suit}
use Rattle.built_image_law.proofs.suitable_scripts.scripts_for_the_names_suit.Goals as goal

pub returns : goal.returns
returns c = scripts_suit c.names_have_frames.ensures c.scripts_suit.ensures.framed

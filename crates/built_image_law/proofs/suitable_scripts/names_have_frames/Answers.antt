use Rattle.built_image_law.proofs.Frames.{names_have_frames}
use Rattle.built_image_law.proofs.suitable_scripts.names_have_frames.Goals as goal

pub returns : goal.returns
returns c = names_have_frames

use Rattle.replay.proofs.Framing.{all_pass}
use Rattle.replay.proofs.frames_pass_law.frames_pass.Goals as goal

pub returns : goal.returns
returns c = λ g fits. all_pass g fits

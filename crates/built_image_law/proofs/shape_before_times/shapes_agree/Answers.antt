use Rattle.built_image_law.proofs.Agreeing.{shapes_agree}
use Rattle.built_image_law.proofs.shape_before_times.shapes_agree.Goals as goal

pub returns : goal.returns
returns c = shapes_agree

use Rattle.built_image_law.proofs.Images.{timely_or_late}
use Rattle.built_image_law.proofs.one_image.timely_or_late.Goals as goal

pub returns : goal.returns
returns c = timely_or_late c.shapes_agree.ensures

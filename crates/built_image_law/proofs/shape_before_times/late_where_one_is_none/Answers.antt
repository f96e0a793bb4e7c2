use Rattle.built_image_law.proofs.Timely.{late_where_one_is_none}
use Rattle.built_image_law.proofs.shape_before_times.late_where_one_is_none.Goals as goal

pub returns : goal.returns
returns c = late_where_one_is_none

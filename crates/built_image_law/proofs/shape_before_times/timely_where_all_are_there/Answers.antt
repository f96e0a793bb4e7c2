use Rattle.built_image_law.proofs.Timely.{timely_where_all_are_there}
use Rattle.built_image_law.proofs.shape_before_times.timely_where_all_are_there.Goals as goal

pub returns : goal.returns
returns c = timely_where_all_are_there

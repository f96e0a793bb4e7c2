use Rattle.built_image_law.proofs.Shapes.{shapes_leave_bounds_aside}
use Rattle.built_image_law.proofs.shape_before_times.shapes_leave_bounds_aside.Goals as goal

pub returns : goal.returns
returns c = shapes_leave_bounds_aside

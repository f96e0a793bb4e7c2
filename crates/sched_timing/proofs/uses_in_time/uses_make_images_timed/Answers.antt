use Rattle.sched_timing.proofs.Uses.{uses_make_images_timed}
use Rattle.sched_timing.proofs.uses_in_time.uses_make_images_timed.Goals as goal

pub returns : goal.returns
returns c = uses_make_images_timed

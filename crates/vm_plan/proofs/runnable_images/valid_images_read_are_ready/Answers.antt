use Rattle.vm_plan.proofs.Planned.{valid_images_read_are_ready}
use Rattle.vm_plan.proofs.runnable_images.valid_images_read_are_ready.Goals as goal

pub returns : goal.returns
returns c = valid_images_read_are_ready

use Rattle.vm_stretch.proofs.Jumping.{next_is_a_frame_later}
use Rattle.vm_stretch.proofs.batched_ticks.next_is_a_frame_later.Goals as goal

pub returns : goal.returns
returns c = next_is_a_frame_later

use Rattle.vm_stretch.proofs.Jumping.{turns_are_the_run}
use Rattle.vm_stretch.proofs.batched_ticks.turns_are_the_run.Goals as goal

pub returns : goal.returns
returns c = turns_are_the_run

use Rattle.vm_watch.proofs.Occupying.{occupant_is_inside}
use Rattle.vm_watch.proofs.inspect.occupant_is_inside.Goals as goal

pub returns : goal.returns
returns c = occupant_is_inside

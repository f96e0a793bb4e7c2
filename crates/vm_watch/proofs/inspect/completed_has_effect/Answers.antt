use Rattle.vm_watch.proofs.Ticking.{completed_has_effect}
use Rattle.vm_watch.proofs.inspect.completed_has_effect.Goals as goal

pub returns : goal.returns
returns c = completed_has_effect

use Rattle.vm_stretch.proofs.PicksLemmas.{pick_is_foremost}
use Rattle.vm_stretch.proofs.dispatch_law.pick_is_foremost.Goals as goal

pub returns : goal.returns
returns c = pick_is_foremost

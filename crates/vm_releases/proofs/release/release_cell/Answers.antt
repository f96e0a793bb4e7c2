use Rattle.std.proofs.Common.{ap}
use Rattle.machine_semantics.specs.State.{Job, Ready}
use Rattle.vm_releases.proofs.release.release_cell.Goals as goal

pub returns-clause-released : goal.returns-clause-released
returns-clause-released c = λ image whole start locals dispatch_ticks. ap (λ (j : Job). Ready j) (c.release.ensures.released image whole start locals dispatch_ticks)

use Rattle.std.proofs.Common.{refl}
use Rattle.machine_semantics.specs.Starts.{starts}
use Rattle.machine_semantics.specs.Tick.{pick, tick}
use Rattle.machine_semantics.specs.Run.{at_start, state_at}
use Rattle.machine_safety.proofs.log.occupied.Goals as goal

pub returns : goal.returns
unfolding state_at at_start tick pick starts
returns c = refl

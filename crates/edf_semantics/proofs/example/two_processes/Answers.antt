use Rattle.std.proofs.Common.{refl}
use Rattle.machine_semantics.specs.Starts.{starts}
use Rattle.machine_semantics.specs.Run.{at_start}
use Rattle.edf_semantics.specs.Choice.{choose}
use Rattle.edf_semantics.specs.Run.{events, events_from, tick}
use Rattle.edf_semantics.proofs.example.two_processes.Goals as goal

pub returns : goal.returns
unfolding events events_from at_start tick choose starts
returns c = refl

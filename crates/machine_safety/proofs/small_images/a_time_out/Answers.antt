use Rattle.std.proofs.Common.{refl}
use Rattle.machine_semantics.specs.Starts.{starts}
use Rattle.machine_semantics.specs.Tick.{pick, tick}
use Rattle.machine_semantics.specs.Run.{at_start, events_from, events}
use Rattle.machine_safety.proofs.small_images.a_time_out.Goals as goal

pub returns : goal.returns
unfolding events events_from at_start tick pick starts
returns c = refl

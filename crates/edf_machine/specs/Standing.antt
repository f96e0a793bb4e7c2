-- Where a machine stands in a run under earliest deadline first.
use Rattle.machine_semantics.specs.Image.{Image, Script}
use Rattle.vm_runner.specs.Dispatching.{Before}
use Rattle.vm_runner.specs.Standing.{Stands}
use Rattle.vm_runner.specs.declared.machine.Machine.{Machine}
use Rattle.edf_machine.specs.ByDeadlines.{Knows, deadlines}
use Rattle.edf_machine.specs.declared.deadlines.Deadlines.{Deadlines}

abbrev pub StandsIn : Image → Script → Machine Deadlines → Type 0
StandsIn image script m = Stands deadlines Knows image script Before m

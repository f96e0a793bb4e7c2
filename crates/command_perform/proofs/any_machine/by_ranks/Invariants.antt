use Rattle.vm_releases.specs.Begin.{script_of}
use Rattle.command_perform.proofs.any_machine.by_ranks.Given as goal

abbrev pub ghost-by_ranks : goal.ghost-by_ranks
ghost-by_ranks g a = record { image = g.image; script = script_of a.script.now }

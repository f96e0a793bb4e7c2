use Rattle.vm_releases.specs.Begin.{script_of}
use Rattle.command_perform.proofs.any_machine.by_deadlines.Given as goal

abbrev pub ghost-machine_by_deadlines : goal.ghost-machine_by_deadlines
ghost-machine_by_deadlines g a = record { image = g.image; script = script_of a.script.now }

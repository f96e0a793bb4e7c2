use Rattle.vm_releases.specs.Begin.{script_of}
use Rattle.vm_runner.proofs.machine.Machine.advance_row.Given as goal

abbrev pub ghost-advance_row_to : goal.ghost-advance_row_to
ghost-advance_row_to g a = record { image = g.image; script = script_of a.script.now }

use Rattle.vm_releases.specs.Begin.{script_of}
use Rattle.vm_watch.proofs.watching.watch.Given as goal

abbrev pub ghost-watch_by : goal.ghost-watch_by
ghost-watch_by a = record { image = a.image.now.image; script = script_of a.script.now }

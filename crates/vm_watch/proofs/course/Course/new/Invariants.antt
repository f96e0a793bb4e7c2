use Rattle.vm_releases.specs.Begin.{script_of}
use Rattle.vm_watch.proofs.course.Course.new.Given as goal

abbrev pub ghost-by_ranks : goal.ghost-by_ranks
ghost-by_ranks g a = record { image = g.image; script = script_of a.script.now }

use Rattle.vm_releases.specs.Begin.{script_of}
use Rattle.vm_runner.proofs.advance.Machine+Ranking.follow.Given as goal

abbrev pub ghost-take_turn : goal.ghost-take_turn
ghost-take_turn g a = record { image = g.image; script = script_of a.script.now }

use Rattle.vm_runner.specs.ByRanks.{by_ranks}
use Rattle.vm_runner.proofs.advance.Machine+Ranking.finish_turn.Given as goal

abbrev pub ghost-take_ticks : goal.ghost-take_ticks
ghost-take_ticks g a = by_ranks g.run.image g.run.script

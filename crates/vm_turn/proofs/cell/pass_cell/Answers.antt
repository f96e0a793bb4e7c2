-- The process stands as its outcome leaves it.
use Rattle.vm_turn.proofs.Settling.{settles}
use Rattle.vm_turn.proofs.cell.pass_cell.Goals as goal

pub returns-clause-settles : goal.returns-clause-settles
returns-clause-settles g c k whole is words shared =
    settles g.at c.args.tick k c.args.process.now whole c.args.cell.now (record c.args.cell.now { job = c.pass_own-outcome.new.job }) c.stand_after.new.cell c.pass_own-outcome.new.owned c.pass_own-outcome.new.shared _ c.pass_own-outcome.result
    is words shared c.requires.1.1.1.1.1.1.1.0 c.pass_own-outcome.ensures.comes c.stand_after.ensures.stands

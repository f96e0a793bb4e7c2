-- The process stands as its outcome leaves it.
use Rattle.vm_turn.proofs.Settling.{settles}
use Rattle.vm_turn.proofs.ending.end_cell.Goals as goal

pub returns-clause-ends : goal.returns-clause-ends
returns-clause-ends g c k whole is words shared =
    settles g.at c.args.tick k c.args.process.now whole c.args.cell.now (record c.args.cell.now { job = c.end_own-outcome.new.job }) c.stand_after.new.cell g.at.owned g.at.shared _ c.end_own-outcome.result
    is words shared c.requires.1.1.1.1.0 c.end_own-outcome.ensures.comes c.stand_after.ensures.stands

use Rattle.edf_machine.proofs.ByDeadlines.{resting}
use Rattle.edf_machine.proofs.deadlines.DeadlinesDispatch.first.Goals as goal

pub choose-requires : goal.choose-requires
choose-requires c = record { sees = (c.requires.rests.0, resting c.args.plan.now c.args.board.now c.args.self.now c.requires.rests.0 c.requires.rests.1) }

pub returns-clause-chosen : goal.returns-clause-chosen
returns-clause-chosen c at it = c.choose.ensures.chosen at (resting c.args.plan.now c.args.board.now c.args.self.now at it)

pub returns-clause-row : goal.returns-clause-row
returns-clause-row c at it can n step = c.choose.ensures.row at (resting c.args.plan.now c.args.board.now c.args.self.now at it) can n step

pub returns-clause-idle : goal.returns-clause-idle
returns-clause-idle c at it can none n step same = c.choose.ensures.row at (resting c.args.plan.now c.args.board.now c.args.self.now at it) can n step

use Rattle.command_perform.proofs.Plans.{of_deadlines, of_ranks}
use Rattle.command_perform.proofs.any_machine.AnyMachine.new.Goals as goal

pub by_ranks-requires : goal.by_ranks-requires
by_ranks-requires g c = (c.requires.0, (c.requires.1.0, (of_ranks c.args.run.now.image c.in-Ranks.field-0 c.in-Ranks.is, c.requires.1.1)))

pub by_deadlines-requires : goal.by_deadlines-requires
by_deadlines-requires g c = (c.requires.0, (c.requires.1.0, (of_deadlines c.args.run.now.image c.in-Deadlines.field-0 c.in-Deadlines.is, c.requires.1.1)))

use Rattle.command_programs.proofs.bounds.least_bound.Goals as goal

pub unreachable-requires : goal.unreachable-requires
unreachable-requires c = let solved = c.requires.timely c.args.level c.requires.level in c.in-None.ensures.none solved.0 solved.1

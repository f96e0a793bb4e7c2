use Rattle.edf_machine.proofs.deadlines.machine_by_deadlines.Goals as goal

-- requires: plan, script, deadlines, runnable

pub machine_of-requires : goal.machine_of-requires
machine_of-requires g c = (c.requires.1.1.1, (c.in_ok-setup.ensures, c.in_ok-dispatch.ensures g.run c.requires.1.1.0))

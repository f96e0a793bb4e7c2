use Rattle.sched_sections.proofs.Adding as adding
use Rattle.sched_sections.proofs.parts_law.parts_are_the_whole.Goals as goal

pub returns-clause-exact : goal.returns-clause-exact
returns-clause-exact c = adding.exact

pub returns-clause-capped : goal.returns-clause-capped
returns-clause-capped c = adding.capped

pub returns-clause-counted : goal.returns-clause-counted
returns-clause-counted c = adding.counted

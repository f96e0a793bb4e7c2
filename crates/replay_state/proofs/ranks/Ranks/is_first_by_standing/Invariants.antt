use Rattle.std.proofs.Common.{◌≡◌, drop}
use Rattle.source_semantics.specs.Source.{before, is_empty, ready_from}
use Rattle.replay_state.specs.View.{config_of, jobs_of}
use Rattle.replay_state.proofs.ranks.Ranks.is_first_by_standing.Given as goal

abbrev pub invariant-loop-other : goal.invariant-loop-other
invariant-loop-other g l =
    is_empty (before g.program (config_of l.config) l.process (ready_from l.other (jobs_of (drop l.other l.jobs))))
    ≡ is_empty (before g.program (config_of l.config) l.process (ready_from 0 (jobs_of l.jobs)))

abbrev pub ghost-comes_before : goal.ghost-comes_before
ghost-comes_before g a = g.program

abbrev pub ghost-standing : goal.ghost-standing
ghost-standing g a = g.program

use Rattle.std.proofs.Common.{ap, subst}
use Rattle.source_semantics.specs.Config.{Job}
use Rattle.replay_state.specs.View.{config_of, jobs_of}
use Rattle.replay_state.specs.declared.config.ProcessState.{ProcessState}
use Rattle.std.proofs.Common.{List}
use Rattle.replay_due_events.specs.Next.{AreWaitsAfter}
use Rattle.replay_due_events.proofs.Waits.{quiet}
use Rattle.replay_due_events.proofs.clock.next_start.Goals as goal

pub returns : goal.returns
returns c =
    quiet c.args.timings.now (config_of c.args.config.now) c.earlier.result c.next_clock_tick-by_clock.result c.next_time_out-by_wait.result c.earlier.ensures.first c.earlier.ensures.second
    c.next_clock_tick-by_clock.ensures
    (subst (λ (l : List ProcessState). AreWaitsAfter c.next_time_out-by_wait.result (jobs_of l)) c.as_slice.ensures.value c.next_time_out-by_wait.ensures)

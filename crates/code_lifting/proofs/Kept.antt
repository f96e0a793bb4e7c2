-- What the laws of valid images give of a run in which no release finds its process unfinished.
use Rattle.machine_semantics.specs.Run.{state_at}
use Rattle.machine_safety.proofs.Running.{every_run_is_safe, state_fits}
use Rattle.machine_safety.proofs.Queueing.{tick_keeps_queues, run_keeps_queues}
use Rattle.code_lifting.specs.Compiled.{ValidRunsAreKept}

pub valid_runs_are_kept : ValidRunsAreKept
valid_runs_are_kept e ps script fits no_overrun = record {
  never_stuck = λ t below. (every_run_is_safe e ps script t fits).0;
  no_overrun = no_overrun;
  queued = λ t below. run_keeps_queues e ps script t fits;
  queued_started = λ t below. (tick_keeps_queues e ps script t (state_at e.image script t) fits (state_fits e ps script t fits) (run_keeps_queues e ps script t fits)).0;
}

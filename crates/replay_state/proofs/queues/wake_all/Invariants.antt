use Rattle.std.proofs.Common.{◌≡◌, drop}
use Rattle.source_semantics.specs.Config.{wake_all}
use Rattle.replay_state.specs.View.{jobs_of}
use Rattle.replay_state.proofs.queues.wake_all.Given as goal

abbrev pub invariant-loop-process : goal.invariant-loop-process
invariant-loop-process l = wake_all (drop l.process-index l.processes) (jobs_of l.jobs.items) ≡ wake_all l.processes (jobs_of l.initial.jobs.items)

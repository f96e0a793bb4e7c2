use Rattle.std.proofs.Common.{◌≡◌, ◌++◌, map, drop}
use Rattle.syntax_tree.specs.Placed.{placed, plain}
use Rattle.source_semantics.specs.Config.{idle_job}
use Rattle.replay_state.specs.View.{jobs_of}
use Rattle.replay.specs.Parts.{seen_processes}
use Rattle.replay.proofs.jobs.idle_jobs.Given as goal

abbrev pub invariant-loop-process : goal.invariant-loop-process
invariant-loop-process l =
    jobs_of l.jobs.items ++ map (idle_job (plain (placed l.declarations))) (seen_processes (drop l.process-index l.processes))
    ≡ map (idle_job (plain (placed l.declarations))) (seen_processes l.processes)

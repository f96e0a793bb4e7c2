use Rattle.std.proofs.Common.{◌≡◌, ◌++◌, map, drop}
use Rattle.syntax_tree.specs.Placed.{placed, plain}
use Rattle.replay_due_events.specs.Timings.{timing_of}
use Rattle.replay.specs.Parts.{seen_processes}
use Rattle.replay.proofs.timings.process_timings.Given as goal

abbrev pub invariant-loop-process : goal.invariant-loop-process
invariant-loop-process l =
    l.list.items ++ map (λ p. timing_of (plain (placed l.declarations)) p.activation) (seen_processes (drop l.process-index l.processes))
    ≡ map (λ p. timing_of (plain (placed l.declarations)) p.activation) (seen_processes l.processes)

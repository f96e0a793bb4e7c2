use Rattle.std.proofs.Common.{◌≡◌, ◌++◌, drop}
use Rattle.sched_sensitivity.specs.Lines.{process_lines}
use Rattle.sched_sensitivity.proofs.lines.add_processes.Given as goal

abbrev pub invariant-loop-process : goal.invariant-loop-process
invariant-loop-process l = l.text ++ process_lines (drop l.process-index l.processes) ≡ l.initial.text ++ process_lines l.processes

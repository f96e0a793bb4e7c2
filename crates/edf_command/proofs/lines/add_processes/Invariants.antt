use Rattle.std.proofs.Common.{◌≡◌, ◌++◌, drop}
use Rattle.command_due.specs.Report.{processes_lines}
use Rattle.edf_command.proofs.lines.add_processes.Given as goal

abbrev pub invariant-loop-number : goal.invariant-loop-number
invariant-loop-number l =
    l.text ++ processes_lines (drop l.number l.image.names.processes) (drop l.number l.image.image.processes)
    ≡ l.initial.text ++ processes_lines l.image.names.processes l.image.image.processes

use Rattle.std.proofs.Common.{◌≡◌, ◌++◌, map, drop}
use Rattle.code_names.specs.First.{names_of}
use Rattle.code_names.specs.Parts.{monitor_of}
use Rattle.code_names.proofs.directory.monitor_names.Given as goal

abbrev pub invariant-loop-monitor : goal.invariant-loop-monitor
invariant-loop-monitor l = names_of l.names.items ++ map (λ m. (monitor_of m).name) (drop l.monitor-index l.monitors) ≡ map (λ m. (monitor_of m).name) l.monitors

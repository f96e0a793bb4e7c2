use Rattle.std.proofs.Common.{◌≡◌, ◌++◌, map, drop}
use Rattle.image.specs.Bytes.{Second, processes_bytes}
use Rattle.image.specs.Raw.{process_of}
use Rattle.image.proofs.image.put_processes.Given as goal

abbrev pub invariant-loop-at : goal.invariant-loop-at
invariant-loop-at l = l.out.items ++ processes_bytes Second (drop l.at l.names) (map process_of (drop l.at l.processes)) ≡ l.initial.out.items ++ processes_bytes Second l.names (map process_of l.processes)

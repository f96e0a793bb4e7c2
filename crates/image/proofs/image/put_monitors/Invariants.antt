use Rattle.std.proofs.Common.{◌≡◌, ◌++◌, map, drop}
use Rattle.image.specs.Bytes.{monitors_bytes}
use Rattle.image.specs.Raw.{monitor_of}
use Rattle.image.proofs.image.put_monitors.Given as goal

abbrev pub invariant-loop-at : goal.invariant-loop-at
invariant-loop-at l = l.out.items ++ monitors_bytes (drop l.at l.names) (map monitor_of (drop l.at l.monitors)) ≡ l.initial.out.items ++ monitors_bytes l.names (map monitor_of l.monitors)

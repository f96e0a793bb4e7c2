use Rattle.std.proofs.Common.{◌≡◌, ◌++◌, drop, map}
use Rattle.serde_json.specs.View.{view}
use Rattle.sched_table.specs.Json.{monitors_data}
use Rattle.sched_table.proofs.json.monitor_values.Given as goal

abbrev pub invariant-loop-at : goal.invariant-loop-at
invariant-loop-at l = map view l.values.items ++ monitors_data (drop l.at l.names) (drop l.at l.ceilings) (drop l.at l.words) ≡ monitors_data l.names l.ceilings l.words

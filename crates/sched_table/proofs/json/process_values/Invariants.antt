use Rattle.std.proofs.Common.{◌≡◌, ◌++◌, drop, map}
use Rattle.serde_json.specs.View.{view}
use Rattle.sched_table.specs.Json.{processes_data}
use Rattle.sched_table.proofs.json.process_values.Given as goal

abbrev pub invariant-loop-at : goal.invariant-loop-at
invariant-loop-at l = map view l.values.items ++ processes_data (drop l.at l.names) (drop l.at l.rows) ≡ processes_data l.names l.rows

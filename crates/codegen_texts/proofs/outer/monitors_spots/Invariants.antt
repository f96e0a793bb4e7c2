use Rattle.std.proofs.Common.{◌≡◌, ◌≤◌, ◌++◌, drop}
use Rattle.syntax_tree.specs.Placed.{placed, plain}
use Rattle.code_names.specs.Parts.{seen_monitors}
use Rattle.codegen_texts.specs.Shared.{monitor_tables}
use Rattle.codegen_texts.proofs.outer.monitors_spots.Given as goal

abbrev pub invariant-loop-monitor : goal.invariant-loop-monitor
invariant-loop-monitor l = record {
  told : l.tables.items ++ monitor_tables (plain (placed l.values)) l.base (seen_monitors (drop l.monitor-index l.monitors)) ≡ monitor_tables (plain (placed l.values)) 0 (seen_monitors l.monitors);
  low : l.base ≤ 4294967296;
}

use Rattle.std.proofs.Common.{◌≡◌, ◌≤◌, ◌*◌, ◌++◌, drop}
use Rattle.std.specs.Prelude.{◌^◌}
use Rattle.code_names.specs.Parts.{seen_monitors}
use Rattle.codegen_texts.specs.Shared.{conditions_from, count_from}
use Rattle.codegen_texts.proofs.conditions.numbered_conditions.Given as goal

abbrev pub invariant-loop-monitor : goal.invariant-loop-monitor
invariant-loop-monitor l = record {
  lists : l.all.lists.items ++ conditions_from l.all.count (seen_monitors (drop l.monitor-index l.monitors)) ≡ conditions_from 0 (seen_monitors l.monitors);
  count : count_from l.all.count (seen_monitors (drop l.monitor-index l.monitors)) ≡ count_from 0 (seen_monitors l.monitors);
  few : l.all.count ≤ l.monitor-index * 2 ^ 64;
}

use Rattle.std.proofs.Common.{◌≡◌, ◌+◌, ◌++◌, map, drop}
use Rattle.syntax_tree.specs.Placed.{placed, plain}
use Rattle.image.specs.Raw.{monitor_of}
use Rattle.code_names.specs.Parts.{seen_monitors}
use Rattle.compile_image.specs.Fields.{monitors_words}
use Rattle.compile_image.specs.Told.{monitors_told}
use Rattle.compile_image.proofs.monitors.raw_monitors.Given as goal

abbrev pub invariant-loop-monitor : goal.invariant-loop-monitor
invariant-loop-monitor l = record {
  list : map monitor_of l.list ++ monitors_told (plain (placed l.values)) l.base (seen_monitors (drop l.monitor-index l.monitors)) ≡ monitors_told (plain (placed l.values)) 0 (seen_monitors l.monitors);
  words : l.base + monitors_words (plain (placed l.values)) (seen_monitors (drop l.monitor-index l.monitors)) ≡ monitors_words (plain (placed l.values)) (seen_monitors l.monitors);
}

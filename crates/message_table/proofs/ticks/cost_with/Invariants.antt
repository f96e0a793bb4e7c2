use Rattle.std.proofs.Common.{◌≡◌, ◌≤◌, ◌+◌, ◌*◌, take, map}
use Rattle.std.specs.Prelude.{sum_by}
use Rattle.message_table.specs.Seen.{mark_of}
use Rattle.message_table.specs.Ticks.{stay_cost}
use Rattle.message_table.proofs.ticks.cost_with.Given as goal

abbrev pub invariant-loop-mark : goal.invariant-loop-mark
invariant-loop-mark l = record {
  sum : l.least ≡ 4 + l.more + sum_by stay_cost (map mark_of (take l.mark-index l.marks));
  within : l.least ≤ 4 + l.more + 1000000016 * l.mark-index;
}

use Rattle.std.proofs.Common.{IsUtf8, subst, sym}
use Rattle.sched_table.proofs.json.monitor_values.Goals as goal

pub monitor_value-requires : goal.monitor_value-requires
monitor_value-requires c = subst IsUtf8 (sym c.index-names-at.is) (c.requires.utf8 c.loop-at.at c.index-names-at.result c.loop-at-test.true)

use Rattle.std.proofs.Common.{drop, ◌≡◌, ◌++◌}
use Rattle.table_format.specs.Parts.{entries_text}
use Rattle.table_format.proofs.monitors.add_entries.Given as goal

abbrev pub invariant-loop-ticks : goal.invariant-loop-ticks
invariant-loop-ticks l = l.text ++ entries_text l.tail (drop l.ticks-index l.all) ≡ l.fn.text ++ entries_text l.tail l.all

use Rattle.std.proofs.Common.{◌≡◌, ◌++◌, ◌-◌}
use Rattle.table_format.specs.Spending.{threes}
use Rattle.table_format.specs.Parts.{statements_text}
use Rattle.table_format.proofs.spending.add_threes.Given as goal

abbrev pub invariant-loop : goal.invariant-loop
invariant-loop l = l.text ++ statements_text (threes l.tail (l.count - l.counter)) ≡ l.fn.text ++ statements_text (threes l.tail l.count)

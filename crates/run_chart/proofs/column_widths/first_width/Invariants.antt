use Rattle.std.proofs.Common.{◌≡◌, drop}
use Rattle.run_chart.specs.Spans.{first_width}
use Rattle.run_chart.proofs.column_widths.first_width.Given as goal

abbrev pub invariant-loop-width : goal.invariant-loop-width
invariant-loop-width l = first_width (drop l.width-index l.widths) l.ticks ≡ first_width l.widths l.ticks

use Rattle.std.proofs.Common.{◌≡◌}
use Rattle.run_chart.specs.Chart.{marks}
use Rattle.vm_chart.proofs.lines.scale.Given as goal

abbrev pub invariant-loop-mark : goal.invariant-loop-mark
invariant-loop-mark l = l.text ≡ marks l.columns l.mark

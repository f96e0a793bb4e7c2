-- The lengths to which the parts of lines are filled.
use Rattle.std.specs.Prelude.{◌≡◌}
use Rattle.image.specs.declared.names.ImageNames.{ImageNames}
use Rattle.run_chart.specs.declared.columns.Columns.{Columns}
use Rattle.vm_chart.specs.declared.lines.Lengths.{Lengths}
use Rattle.run_chart.specs.Chart.{label_len, text_len}

pub record AreLengths (names : ImageNames) (columns : Columns) (lengths : Lengths) : Type 0 where
  pub labels : lengths.labels ≡ label_len names
  pub texts : lengths.texts ≡ text_len columns

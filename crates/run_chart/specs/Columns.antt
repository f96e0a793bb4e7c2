-- The columns of the ticks of a run.
use Rattle.std.specs.Prelude.{◌≤◌, ◌<◌, ◌+◌, ◌-◌, ℕ, min}
use Rattle.run_chart.specs.declared.columns.Columns.{Columns}
use Rattle.run_chart.specs.Spans.{first_tick}

-- at most 100, none of them too wide; where there is one it begins in a run
pub record AreFew (columns : Columns) : Type 0 where
  pub end : columns.end ≤ 1000000000
  pub some : 0 < columns.width
  pub wide : columns.width ≤ 10000000
  pub count : columns.count ≤ 100
  pub first : 0 < columns.count → columns.first ≤ 1000000000

-- the tick that follows the last of column c, which may be shorter than the others
abbrev pub end_of : Columns → (c : ℕ) → ℕ
end_of columns c = first_tick columns c + min columns.width (columns.end - first_tick columns c)

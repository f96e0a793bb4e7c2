-- What a table is shown with: names for its rows and monitors.
use Rattle.std.specs.Prelude.{◌≡◌, ℕ, List, ◌∷◌, Option, Some, None, length}
use Rattle.image.specs.declared.names.ImageNames.{ImageNames}
use Rattle.sched_table.specs.declared.table.Row.{Row}
use Rattle.sched_table.specs.declared.table.Table.{Table}

-- one row for each process of the names, and one ceiling and one number of words for each monitor
pub record IsNamed (names : ImageNames) (table : Table) : Type 0 where
  pub processes : length names.processes ≡ length table.rows
  pub ceilings : length names.monitors ≡ length table.ceilings
  pub words : length names.monitors ≡ length table.monitor_words

-- a name, where there is no bound
abbrev pub late_or : List ℕ → Option ℕ → Option (List ℕ) → Option (List ℕ)
late_or name None others = Some name
late_or name (Some bound) others = others

-- the first process that has no bound
abbrev pub late : List (List ℕ) → List Row → Option (List ℕ)
late (name ∷ names) (row ∷ rows) = late_or name row.bound (late names rows)
late names rows = None

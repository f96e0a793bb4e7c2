-- The table that a report shows of a program.
use Rattle.std.specs.Prelude.{◌≡◌, ◌<◌, ◌-◌, ℕ, cond, List, [], ◌∷◌, Option, Some, None, nat_eq, length, map, slice_get}
use Rattle.syntax_tree.specs.Plain.{Program}
use Rattle.machine_semantics.specs.Image.{Image, Monitor, Process}
use Rattle.valid_image.specs.Tasks.{tasks_of}
use Rattle.sched_table.specs.declared.table.Row.{Row}
use Rattle.sched_table.specs.declared.table.Table.{Table}
use Rattle.sched_table.specs.Table.{IsBoundAt}
use Rattle.built_image.specs.Built.{IsShaped}

-- the row of a process, with its bound, if it has one
abbrev pub row_of : Process → Option ℕ → Row
row_of p bound = record {
  frame = p.frame;
  deadline = p.deadline;
  rank = p.rank;
  cost = record { run = p.run; susp = p.susp; waits = p.waits };
  block = p.block;
  bound = bound;
  size = record { words = p.words; stack = p.stack };
}

abbrev pub rows_of : List Process → List (Option ℕ) → List Row
rows_of (p ∷ ps) (b ∷ bs) = row_of p b ∷ rows_of ps bs
rows_of ps bs = []

-- none for a monitor that no process enters
abbrev pub ceiling_shown : Monitor → Option ℕ
ceiling_shown m = cond (nat_eq m.ceiling 65535) None (Some m.ceiling)

-- the table of an image, with the bounds of its processes
abbrev pub table_of : Image → List (Option ℕ) → Table
table_of m bounds = record {
  rows = rows_of m.processes bounds;
  ceilings = map ceiling_shown m.monitors;
  monitor_words = map (λ x. x.words) m.monitors;
  code = length m.code;
}

-- for each process the least solution of its recurrence within its deadline, none exactly where
-- there is none
pub record AreLeast (m : Image) (bounds : List (Option ℕ)) : Type 0 where
  pub one_each : length bounds ≡ length m.processes
  pub each : (k : ℕ) (p : Process) (b : Option ℕ) → slice_get m.processes k ≡ Some p → slice_get bounds k ≡ Some b
      → IsBoundAt (tasks_of m) (p.rank - 1) b

-- The table of a program with an overhead.
pub record IsTableOf (g : Program) (over : ℕ) (t : Table) : Type 0 where
  pub image : Image
  pub shaped : IsShaped g over image
  pub bounds : List (Option ℕ)
  pub least : AreLeast image bounds
  pub is : t ≡ table_of image bounds

-- The tasks of a table of three lines with two monitors.
use Rattle.std.specs.Prelude.{◌≡◌, ◌+◌, ◌*◌, ℕ, List, [], ◌∷◌, Some, None, codes}
use Rattle.base.specs.Capped.{cap}
use Rattle.sched_response.specs.declared.tasks.Task.{Task}
use Rattle.table_format.specs.declared.table.TaskLine.{TaskLine}
use Rattle.table_format.specs.declared.table.TaskTable.{TaskTable}
use Rattle.table_law.specs.Tasks.{rank_of_line, IsTableCeiling, AreTableTasks, IsBoundOfLine}

abbrev pub first_line : TaskLine
first_line = record { name = codes "t1"; event = None; frame = 1000; deadline = Some 900; first = None; cost = 400; stays = record { monitor = codes "m"; ticks = 100 } ∷ [] }

abbrev pub second_line : TaskLine
second_line = record { name = codes "t2"; event = Some (codes "alarm"); frame = 2000; deadline = None; first = None; cost = 7; stays = [] }

abbrev pub third_line : TaskLine
third_line = record { name = codes "t3"; event = None; frame = 5000; deadline = Some 4000; first = Some 3; cost = 1153; stays = record { monitor = codes "m"; ticks = 12 } ∷ record { monitor = codes "k"; ticks = 3 } ∷ [] }

abbrev pub example_table : TaskTable
example_table = record { name = codes "set"; tasks = first_line ∷ second_line ∷ third_line ∷ [] }

-- The law: the lines rank in the order of the table. The ceiling of m is the rank of the first
-- line, that of k the rank of the third.
pub record ExampleHasItsRanks : Type 0 where
  pub first : rank_of_line example_table 0 ≡ 1
  pub second : rank_of_line example_table 1 ≡ 2
  pub third : rank_of_line example_table 2 ≡ 3
  pub of_m : IsTableCeiling example_table (codes "m") 1
  pub of_k : IsTableCeiling example_table (codes "k") 3

-- The stay of the third line in m holds up both others, and its stay in k none.
abbrev pub example_tasks : (over : ℕ) → List Task
example_tasks over =
    record { frame = 1000; deadline = 900; run = cap (400 + 2 * over); susp = 0; waits = 0; block = 12 }
    ∷ record { frame = 2000; deadline = 2000; run = cap (7 + 2 * over); susp = 0; waits = 0; block = 12 }
    ∷ record { frame = 5000; deadline = 4000; run = cap (1153 + 2 * over); susp = 0; waits = 0; block = 0 }
    ∷ []

-- The law: these are its tasks.
abbrev pub ExampleHasItsTasks : Type 0
ExampleHasItsTasks = (over : ℕ) → AreTableTasks example_table over (example_tasks over)

-- The law: without overhead the first ends within 12 + 400 ticks, the second within 12 + 7 and one
-- activation of the first, the third within 1153, two activations of the first and one of the
-- second.
pub record ExampleIsBounded : Type 0 where
  pub first : IsBoundOfLine example_table 0 0 412
  pub second : IsBoundOfLine example_table 0 1 419
  pub third : IsBoundOfLine example_table 0 2 1960

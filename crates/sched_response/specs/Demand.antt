-- What a task and those of higher rank ask of the processor, and the recurrence of the response
-- times.
use Rattle.std.specs.Prelude.{◌≤◌, ◌<◌, ◌+◌, ◌*◌, ℕ, List, length, take, sum_by, slice_index_or, slice_set, All}
use Rattle.std.specs.Int.{div_ceil}
use Rattle.std.specs.List.Sorted.{IsNonDecreasingBy}
use Rattle.base.specs.Capped.{cap}
use Rattle.sched_response.specs.declared.tasks.Task.{Task}

-- the task of a level; levels count from 0, and 0 is the highest rank
abbrev pub task_at : List Task → ℕ → Task
task_at ts level = slice_index_or ts level (record { frame = 0; deadline = 0; run = 0; susp = 0; waits = 0; block = 0 })

-- an activation has to end within so many ticks
abbrev pub deadline_at : List Task → ℕ → ℕ
deadline_at ts level = (task_at ts level).deadline

-- the same tasks, but that the one of the level runs for so many ticks
abbrev pub with_run : List Task → ℕ → ℕ → List Task
with_run ts level ticks = slice_set ts level (record (task_at ts level) { run = ticks })

-- the same tasks, but that the one of the level suspends itself for so many ticks
abbrev pub with_susp : List Task → ℕ → ℕ → List Task
with_susp ts level ticks = slice_set ts level (record (task_at ts level) { susp = ticks })

-- one activation, where each wait is followed by a blocking of b
abbrev pub activation : ℕ → Task → ℕ
activation b t = t.run + t.susp + t.waits * b

-- how many activations the tasks start in r ticks
abbrev pub starts_in : ℕ → List Task → ℕ
starts_in r ts = sum_by (λ t. div_ceil r t.frame) ts

-- what these activations ask for
abbrev pub asked : ℕ → ℕ → List Task → ℕ
asked b r ts = sum_by (λ t. div_ceil r t.frame * activation b t) ts

-- what a task asks for in r ticks with those before it: its block, one activation of its own, and
-- all of theirs
abbrev pub exact_demand_of : Task → List Task → ℕ → ℕ
exact_demand_of own before r = (own.block + activation own.block own) + asked own.block r before

abbrev pub demand_of : Task → List Task → ℕ → ℕ
demand_of own before r = cap (exact_demand_of own before r)

-- the function f of a level, exact
unfoldable pub exact_demand_at : List Task → ℕ → ℕ → ℕ
exact_demand_at ts level r = exact_demand_of (task_at ts level) (take level ts) r

-- the function f of a level, capped
unfoldable pub demand_at : List Task → ℕ → ℕ → ℕ
demand_at ts level r = demand_of (task_at ts level) (take level ts) r

-- the task with its costs and its block capped
abbrev pub capped : Task → Task
capped t = record { frame = t.frame; deadline = t.deadline; run = cap t.run; susp = cap t.susp; waits = cap t.waits; block = cap t.block }

pub record IsTask (t : Task) : Type 0 where
  pub frame_low : 10 ≤ t.frame
  pub frame_high : t.frame ≤ 1000000000
  pub deadline_low : 10 ≤ t.deadline
  pub deadline_high : t.deadline ≤ t.frame
  pub run : t.run ≤ 1000000001
  pub susp : t.susp ≤ 1000000001
  pub waits : t.waits ≤ 1000000001
  pub block : t.block ≤ 1000000001

-- 1 to 64 tasks in the order of their ranks, where no deadline is above a later one
pub record AreTasks (ts : List Task) : Type 0 where
  pub ascending : IsNonDecreasingBy (λ t. t.deadline) ts
  pub some : 0 < length ts
  pub few : length ts ≤ 64
  pub each : All IsTask ts

-- r is within the deadline and meets the recurrence
pub record Solves (ts : List Task) (level r : ℕ) : Type 0 where
  pub above : 1 ≤ r
  pub within : r ≤ deadline_at ts level
  pub met : demand_at ts level r ≤ r

-- r is the least response that meets it
pub record IsBound (ts : List Task) (level r : ℕ) : Type 0 where
  pub solves : Solves ts level r
  pub least : (other : ℕ) → Solves ts level other → r ≤ other

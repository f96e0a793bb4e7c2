-- What tasks with deadlines ask of the processor, and the points at which their demand is tested.
use Rattle.std.specs.Prelude.{◌≡◌, ◌≤◌, ◌<◌, ◌+◌, ◌-◌, ◌*◌, ◌/◌, ℕ, zero, suc, List, length, cond, nat_lt, sum_by, slice_index_or, All}
use Rattle.std.specs.Int.{div_ceil}
use Rattle.std.specs.List.Sorted.{IsNonDecreasingBy}
use Rattle.base.specs.Capped.{cap}
use Rattle.sched_demand.specs.declared.tasks.DemandTask.{DemandTask}
use Rattle.sched_demand.specs.declared.judging.Judgement.{Judgement}
use Rattle.sched_demand.specs.declared.judging.Judgement.TheVariants as judgement

-- the task of a level; levels count from 0, and 0 is the highest rank
abbrev pub task_at : List DemandTask → ℕ → DemandTask
task_at ts level = slice_index_or ts level (record { frame = 0; deadline = 0; cost = 0; block = 0 })

pub record IsTask (t : DemandTask) : Type 0 where
  pub frame_low : 10 ≤ t.frame
  pub frame_high : t.frame ≤ 1000000000
  pub deadline_low : 10 ≤ t.deadline
  pub deadline_high : t.deadline ≤ t.frame
  pub cost : t.cost ≤ 1000000001
  pub block : t.block ≤ 1000000001

-- no deadline is above a later one, and equal deadlines have equal blocks
pub record AreOrdered (ts : List DemandTask) : Type 0 where
  pub ascending : IsNonDecreasingBy (λ t. t.deadline) ts
  pub one_block : (i j : ℕ) → i < length ts → j < length ts → (task_at ts i).deadline ≡ (task_at ts j).deadline → (task_at ts i).block ≡ (task_at ts j).block

-- 1 to 64 tasks in the order of their ranks
pub record AreTasks (ts : List DemandTask) : Type 0 where
  pub some : 0 < length ts
  pub few : length ts ≤ 64
  pub each : All IsTask ts
  pub ordered : AreOrdered ts

-- how many activations of a task, released a frame apart from tick 0 on, have their deadlines
-- within so many ticks
abbrev pub due_by : ℕ → DemandTask → ℕ
due_by t x = cond (nat_lt t x.deadline) 0 ((t - x.deadline) / x.frame + 1)

-- the ticks that the activations with deadlines within so many ticks ask for
abbrev pub dbf : List DemandTask → ℕ → ℕ
dbf ts t = sum_by (λ x. due_by t x * x.cost) ts

-- the block of the last of the first n tasks whose deadline is within so many ticks; 0 where there
-- is none
abbrev pub block_of : List DemandTask → ℕ → ℕ → ℕ
block_of ts t zero = 0
block_of ts t (suc n) = cond (nat_lt t (task_at ts n).deadline) (block_of ts t n) (task_at ts n).block

-- the longest stay of a task with a deadline above so many ticks that keeps one with a deadline
-- within them from running
abbrev pub block_at : List DemandTask → ℕ → ℕ
block_at ts t = block_of ts t (length ts)

-- the demand that is tested
abbrev pub demand_at : List DemandTask → ℕ → ℕ
demand_at ts t = dbf ts t + block_at ts t

-- what the tasks ask for in so many ticks from a release of all of them
abbrev pub asked : List DemandTask → ℕ → ℕ
asked ts r = sum_by (λ x. div_ceil r x.frame * x.cost) ts

-- so many ticks cover each block and what is asked for in them
abbrev pub Covers : List DemandTask → ℕ → Type 0
Covers ts r = (j : ℕ) → j < length ts → (task_at ts j).block + asked ts r ≤ r

-- the length of the longest row of ticks that has to be tested: the least number that covers, or
-- 1,000,000,000 where none up to it does
pub record IsReach (ts : List DemandTask) (reach : ℕ) : Type 0 where
  pub above : 1 ≤ reach
  pub within : reach ≤ 1000000000
  pub covers : reach < 1000000000 → Covers ts reach
  pub least : (r : ℕ) → 1 ≤ r → r < reach → Covers ts r → ⊥

-- a point: a deadline of an activation, where a task is released from tick 0 on a frame apart
pub record IsPoint (ts : List DemandTask) (reach t : ℕ) : Type 0 where
  pub level : ℕ
  pub of_these : level < length ts
  pub turn : ℕ
  pub here : t ≡ (task_at ts level).deadline + turn * (task_at ts level).frame
  pub within : t ≤ reach

-- the count of the points of a task, and of all
abbrev pub points_of : ℕ → DemandTask → ℕ
points_of reach x = due_by reach x

abbrev pub points : List DemandTask → ℕ → ℕ
points ts reach = sum_by (points_of reach) ts

-- the demand is met at each point
abbrev pub IsFeasible : List DemandTask → ℕ → Type 0
IsFeasible ts reach = (t : ℕ) → IsPoint ts reach t → demand_at ts t ≤ t

-- ---- the answer

-- a late point: the least at which the demand is not met
pub record IsLate (ts : List DemandTask) (reach at demand : ℕ) : Type 0 where
  pub point : IsPoint ts reach at
  pub late : at < demand_at ts at
  pub first : (t : ℕ) → IsPoint ts reach t → t < at → demand_at ts t ≤ t
  pub demand_is : demand ≡ cap (demand_at ts at)

-- what the test answers, where the row that has to be tested is so long
abbrev pub IsJudged : List DemandTask → ℕ → Judgement → Type 0
IsJudged ts reach (judgement.Feasible count) = (count ≡ points ts reach) × (count ≤ 1000000) × IsFeasible ts reach
IsJudged ts reach (judgement.Late count at demand) = (count ≡ points ts reach) × (count ≤ 1000000) × IsLate ts reach at demand
IsJudged ts reach judgement.Many = 1000000 < points ts reach

-- ---- parts of the test

-- the least point after some ticks, on any turn of any of the first n tasks
pub record IsNext (ts : List DemandTask) (t n next : ℕ) : Type 0 where
  pub level : ℕ
  pub of_these : level < length ts
  pub turn : ℕ
  pub here : next ≡ (task_at ts level).deadline + turn * (task_at ts level).frame
  pub after : t < next
  pub least : (j m : ℕ) → j < n → t < (task_at ts j).deadline + m * (task_at ts j).frame → next ≤ (task_at ts j).deadline + m * (task_at ts j).frame

-- no number of ticks below it covers
abbrev pub NoneCovers : List DemandTask → ℕ → Type 0
NoneCovers ts reach = (r : ℕ) → 1 ≤ r → r < reach → Covers ts r → ⊥

-- the largest block
pub record IsMost (ts : List DemandTask) (block : ℕ) : Type 0 where
  pub level : ℕ
  pub of_these : level < length ts
  pub here : (task_at ts level).block ≡ block
  pub most : (j : ℕ) → j < length ts → (task_at ts j).block ≤ block

-- a point, of a row of any length
pub record IsTurn (ts : List DemandTask) (t : ℕ) : Type 0 where
  pub level : ℕ
  pub of_these : level < length ts
  pub turn : ℕ
  pub here : t ≡ (task_at ts level).deadline + turn * (task_at ts level).frame

-- The tasks that an image asks for, and what the test of the demand says of a program.
use Rattle.std.specs.Prelude.{◌≡◌, ◌≤◌, ◌-◌, ℕ, List, Some, length, slice_get}
use Rattle.syntax_tree.specs.Plain.{Program}
use Rattle.machine_semantics.specs.Image.{Image, Process}
use Rattle.built_image.specs.Built.{IsShaped}
use Rattle.sched_demand.specs.declared.tasks.DemandTask.{DemandTask}
use Rattle.sched_demand.specs.declared.judging.Judgement.{Judgement}
use Rattle.sched_demand.specs.Demand.{task_at, AreTasks, IsJudged, IsReach}

-- of the processes with its deadline it is the last in the order of ranks
abbrev pub IsLastOfDeadline : Image → Process → Type 0
IsLastOfDeadline m q = (k : ℕ) (p : Process) → slice_get m.processes k ≡ Some p → p.deadline ≡ q.deadline → p.rank ≤ q.rank

-- The tasks of an image in the order of ranks. Each has the frame, the deadline and the cost of its
-- process; its block is that of the last process with this deadline: the longest stay of one with a
-- later deadline in a monitor that one with this deadline or a sooner one enters.
pub record AreDemands (m : Image) (ts : List DemandTask) : Type 0 where
  pub many : length ts ≡ length m.processes
  pub frame : (k : ℕ) (p : Process) → slice_get m.processes k ≡ Some p → (task_at ts (p.rank - 1)).frame ≡ p.frame
  pub deadline : (k : ℕ) (p : Process) → slice_get m.processes k ≡ Some p → (task_at ts (p.rank - 1)).deadline ≡ p.deadline
  pub cost : (k : ℕ) (p : Process) → slice_get m.processes k ≡ Some p → (task_at ts (p.rank - 1)).cost ≡ p.run
  pub block : (j k : ℕ) (p q : Process) → slice_get m.processes j ≡ Some p → slice_get m.processes k ≡ Some q
      → p.deadline ≡ q.deadline → IsLastOfDeadline m q → (task_at ts (p.rank - 1)).block ≡ q.block

-- what the test of the demand says of an image
pub record IsAnswer (m : Image) (answer : Judgement) : Type 0 where
  pub tasks : List DemandTask
  pub demands : AreDemands m tasks
  pub valid : AreTasks tasks
  pub reach : ℕ
  pub is_reach : IsReach tasks reach
  pub judged : IsJudged tasks reach answer

-- what it says of a program
pub record IsAnswerFor (g : Program) (answer : Judgement) : Type 0 where
  pub image : Image
  pub shaped : IsShaped g 0 image
  pub answered : IsAnswer image answer

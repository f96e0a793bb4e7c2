-- The tasks of an image in time, and a text that grows by one line.
use Rattle.std.specs.Prelude.{◌≡◌, ◌<◌, ◌-◌, ◌++◌, ℕ, List, Some, length, slice_get}
use Rattle.machine_semantics.specs.Image.{Image, Process}
use Rattle.sched_response.specs.declared.tasks.Task.{Task}
use Rattle.sched_response.specs.Demand.{AreTasks}
use Rattle.valid_image.specs.Tasks.{tasks_of}
use Rattle.image.specs.Named.{NamedImage}
use Rattle.sched_sensitivity.specs.Slack.{IsTimely}
use Rattle.command_due.specs.Lines.{IsSlackLine}

-- each process has its rank among the tasks
abbrev pub HaveLevels : List Process → List Task → Type 0
HaveLevels processes tasks = (k : ℕ) (p : Process) → slice_get processes k ≡ Some p → p.rank - 1 < length tasks

-- the tasks are those of the image, and each rank has a bound
pub record AreTimelyTasks (m : Image) (tasks : List Task) : Type 0 where
  pub is : tasks ≡ tasks_of m
  pub sound : AreTasks tasks
  pub timely : IsTimely tasks
  pub levels : HaveLevels m.processes tasks

-- the text has grown by the line of the process of the number
pub record AddsLine (n : NamedImage) (number : ℕ) (before now : List ℕ) : Type 0 where
  pub line : List ℕ
  pub is : (p : Process) → slice_get n.image.processes number ≡ Some p → IsSlackLine n number p line
  pub grown : now ≡ before ++ line

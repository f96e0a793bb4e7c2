-- The laws of the tasks and the levels of a program.
use Rattle.std.specs.Prelude.{◌≡◌, ◌≤◌, ◌<◌, ◌-◌, ℕ, List, Option, Some, None, slice_get}
use Rattle.syntax_tree.specs.Plain.{Process, Program}
use Rattle.source_semantics.specs.Names.{processes}
use Rattle.source_semantics.specs.Ranks.{rank}
use Rattle.sched_response.specs.declared.tasks.Task.{Task}
use Rattle.sched_response.specs.Demand.{task_at, deadline_at, demand_at, AreTasks}
use Rattle.sched_sections.specs.declared.levels.Level.{Level}
use Rattle.sched_sections.specs.Levels.{level_at, tasks_in}
use Rattle.sched_sensitivity.specs.Slack.{IsTimely}
use Rattle.sched_sensitivity.specs.Overhead.{with_overhead, IsOverheadFit}
use Rattle.sched_program.specs.Tasks.{AreTasksOf, IsInTime}
use Rattle.sched_program.specs.Fits.{IsOverheadOf}
use Rattle.sched_program.specs.Levels.{AreLevelsOf}

-- the tasks without an overhead, with one, are those of the program with this one
abbrev pub OverheadsAreAdded : Type 0
OverheadsAreAdded = (g : Program) (over : ℕ) (ts : List Task) → AreTasksOf g 0 ts → AreTasksOf g over (with_overhead ts over)

-- where they are in time, the program is
abbrev pub TasksInTimeAreProgramsInTime : Type 0
TasksInTimeAreProgramsInTime = (g : Program) (over : ℕ) (ts : List Task) → AreTasksOf g 0 ts → IsTimely (with_overhead ts over) → IsInTime g over

-- each program has one list of tasks with an overhead at most
abbrev pub HasOneTaskList : Program → Type 0
HasOneTaskList g = (over : ℕ) (ts us : List Task) → AreTasksOf g over ts → AreTasksOf g over us → ts ≡ us

-- so the overhead that fits its tasks without one is that with which it is in time by its text
abbrev pub OverheadsThatFitAreOfTheText : Type 0
OverheadsThatFitAreOfTheText = (g : Program) (ts : List Task) (fit : Option ℕ) → HasOneTaskList g → AreTasksOf g 0 ts → IsOverheadFit ts fit → IsOverheadOf g fit

-- the sum that is shown of a process that runs at all is its bound, where it has one
abbrev pub SumsAreTheBounds : Type 0
SumsAreTheBounds = (g : Program) (over k bound : ℕ) (p : Process) (ls : List Level) → AreLevelsOf g over ls → AreTasks (tasks_in ls) → slice_get (processes g) k ≡ Some p
    → 1 ≤ (task_at (tasks_in ls) (rank g k - 1)).run → (level_at ls (rank g k - 1)).bound ≡ Some bound → demand_at (tasks_in ls) (rank g k - 1) bound ≡ bound

-- and it is past the deadline where it has none
abbrev pub SumsWithoutABoundAreLate : Type 0
SumsWithoutABoundAreLate = (g : Program) (over k : ℕ) (p : Process) (ls : List Level) → AreLevelsOf g over ls → AreTasks (tasks_in ls) → slice_get (processes g) k ≡ Some p
    → (level_at ls (rank g k - 1)).bound ≡ None → deadline_at (tasks_in ls) (rank g k - 1) < demand_at (tasks_in ls) (rank g k - 1) (deadline_at (tasks_in ls) (rank g k - 1))

-- Each program has one list of tasks, and one judgement.
use Rattle.std.specs.Prelude.{◌≡◌, ◌⊎◌, ℕ, List}
use Rattle.syntax_tree.specs.Plain.{Program}
use Rattle.sched_response.specs.declared.tasks.Task.{Task}
use Rattle.sched_program.specs.Tasks.{AreTasksOf, IsInTime, IsNotInTime}

-- The law: each program has tasks with an overhead.
abbrev pub TasksAreThere : Type 0
TasksAreThere = (g : Program) (over : ℕ) → (ts : List Task) × AreTasksOf g over ts

-- The law: they are one.
abbrev pub TasksAreOne : Type 0
TasksAreOne = (g : Program) (over : ℕ) (ts us : List Task) → AreTasksOf g over ts → AreTasksOf g over us → ts ≡ us

-- The law: each program is in time or not in time.
abbrev pub InTimeOrNot : Type 0
InTimeOrNot = (g : Program) (over : ℕ) → IsInTime g over ⊎ IsNotInTime g over

-- The law: none is both.
abbrev pub NeverInTimeAndNot : Type 0
NeverInTimeAndNot = (g : Program) (over : ℕ) → IsInTime g over → IsNotInTime g over → ⊥

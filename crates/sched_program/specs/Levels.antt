-- The bounds of a program, taken apart.
use Rattle.std.specs.Prelude.{◌≡◌, ◌-◌, ℕ, List, Some, length, map, slice_get}
use Rattle.syntax_tree.specs.Plain.{Process, Program}
use Rattle.source_semantics.specs.Names.{processes}
use Rattle.source_semantics.specs.Ranks.{rank, numbers_from}
use Rattle.sched_response.specs.declared.tasks.Task.{Task}
use Rattle.sched_table.specs.Table.{IsBoundAt}
use Rattle.sched_program.specs.Tasks.{AreTasksOf}
use Rattle.sched_sections.specs.declared.levels.Level.{Level}
use Rattle.sched_sections.specs.Levels.{level_at, tasks_in}
use Rattle.sched_sections.specs.Sections.{bounds_text}
use Rattle.sched_program.specs.Blockers.{IsBlockerOf}

-- the level of process k: its name, its bound if it has one, and what makes its block
pub record IsLevelOf (g : Program) (ts : List Task) (k : ℕ) (p : Process) (l : Level) : Type 0 where
  pub name : l.name ≡ p.name
  pub bound : IsBoundAt ts (rank g k - 1) l.bound
  pub blocker : IsBlockerOf g (rank g k) l.task.block l.blocker

-- the levels of a program with an overhead: one for each process, in the order of ranks, which
-- count from 1
pub record AreLevelsOf (g : Program) (over : ℕ) (ls : List Level) : Type 0 where
  pub tasks : AreTasksOf g over (tasks_in ls)
  pub each : (k : ℕ) (p : Process) → slice_get (processes g) k ≡ Some p → IsLevelOf g (tasks_in ls) k p (level_at ls (rank g k - 1))

-- the level of each process, in the order of the text
abbrev pub order : Program → List ℕ
order g = map (λ k. rank g k - 1) (numbers_from (length (processes g)) 0)

-- The text takes the bounds of the program apart, with an overhead.
pub record IsWhyText (g : Program) (over : ℕ) (text : List ℕ) : Type 0 where
  pub levels : List Level
  pub are : AreLevelsOf g over levels
  pub is : text ≡ bounds_text levels (order g)

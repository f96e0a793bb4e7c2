-- The tasks of a program with a monitor, a wait with a limit of 30 ticks, a signal and a handler.
use Rattle.std.specs.Prelude.{◌+◌, ◌*◌, ℕ, List, [], ◌∷◌}
use Rattle.base.specs.Capped.{cap}
use Rattle.source_semantics_law.specs.Example.{signalled_wait}
use Rattle.sched_response.specs.declared.tasks.Task.{Task}
use Rattle.sched_program.specs.Tasks.{AreTasksOf, IsBoundOf}

-- The process that waits stays 13 ticks in the monitor, the one that signals stays 8. The first has
-- the higher rank, so it can be held up 8 ticks, and the other one not at all. With a wait an
-- activation has four dispatches, without one two.
abbrev pub example_tasks : (over : ℕ) → List Task
example_tasks over =
    record { frame = 200; deadline = 200; run = cap (43 + 2 * over * 2); susp = 30; waits = 1; block = 8 }
    ∷ record { frame = 300; deadline = 300; run = cap (27 + 2 * over * 1); susp = 0; waits = 0; block = 0 }
    ∷ []

-- The law: these are its tasks.
abbrev pub ExampleHasItsTasks : Type 0
ExampleHasItsTasks = (over : ℕ) → AreTasksOf signalled_wait over (example_tasks over)

-- The law: without overhead the first ends within 8 + 43 + 30 + 1 * 8 ticks, the second within 27 and
-- one activation of the first.
pub record ExampleIsBounded : Type 0 where
  pub first : IsBoundOf signalled_wait 0 0 89
  pub second : IsBoundOf signalled_wait 0 1 100

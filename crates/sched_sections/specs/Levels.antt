-- Levels in the order of ranks, by number from 0.
use Rattle.std.specs.Prelude.{ℕ, List, [], None, map, slice_index_or, unwrap_or}
use Rattle.sched_response.specs.declared.tasks.Task.{Task}
use Rattle.sched_sections.specs.declared.levels.Level.{Level}

abbrev pub level_at : List Level → ℕ → Level
level_at levels level = slice_index_or levels level (record { name = []; task = record { frame = 0; deadline = 0; run = 0; susp = 0; waits = 0; block = 0 }; bound = None; blocker = None })

-- what the recurrence asks of them
abbrev pub tasks_in : List Level → List Task
tasks_in levels = map (λ l. l.task) levels

-- the bound, or the deadline where there is none: the ticks in which the demand is taken
abbrev pub shown_at : Level → ℕ
shown_at l = unwrap_or l.bound l.task.deadline

-- The load of tasks on the processor, in millionths of it.
use Rattle.std.specs.Prelude.{◌*◌, ℕ, List, sum_by, nat_le, if◌then◌else◌}
use Rattle.std.specs.Int.{div_ceil}
use Rattle.sched_response.specs.declared.tasks.Task.{Task}

-- the share of a task: its cost over its frame, rounded up; a cost that is not counted any more has
-- a share that is not either
abbrev pub share : Task → ℕ
share t = if nat_le t.run 1000000000 then div_ceil (1000000 * t.run) t.frame else 1000000001

-- the sum of the shares; suspended ticks are no load
abbrev pub load : List Task → ℕ
load ts = sum_by (λ t. share t) ts

-- The parts of what a level and those above it ask for in some ticks: one by one, as they are added
-- by hand.
use Rattle.std.specs.Prelude.{◌+◌, ◌*◌, ℕ, zero, suc, List}
use Rattle.std.specs.Int.{div_ceil}
use Rattle.base.specs.Capped.{cap}
use Rattle.sched_response.specs.declared.tasks.Task.{Task}
use Rattle.sched_response.specs.Demand.{task_at, activation}

-- the ticks that the level can be held up for after its waits: a block after each of them
abbrev pub after_waits : Task → ℕ
after_waits t = t.waits * t.block

-- how often the task of a level is released in r ticks, at most
abbrev pub releases : List Task → (r level : ℕ) → ℕ
releases ts r level = div_ceil r (task_at ts level).frame

-- what an activation of a higher level takes from this one: each wait of it can be followed by a
-- block of this level
abbrev pub each_takes : List Task → (level higher : ℕ) → ℕ
each_takes ts level higher = activation (task_at ts level).block (task_at ts higher)

-- what all activations of the higher level take from this one in r ticks
abbrev pub all_take : List Task → (level r higher : ℕ) → ℕ
all_take ts level r higher = releases ts r higher * each_takes ts level higher

-- the sum over the first n levels
abbrev pub all_of_first : List Task → (level r n : ℕ) → ℕ
all_of_first ts level r zero = 0
all_of_first ts level r (suc n) = all_of_first ts level r n + all_take ts level r n

-- the parts added up: the block, the cost, the suspension, the blocks after the waits, and what the
-- higher levels take
abbrev pub sum_of_parts : List Task → (level r : ℕ) → ℕ
sum_of_parts ts level r =
    ((task_at ts level).block + (task_at ts level).run + (task_at ts level).susp + after_waits (task_at ts level))
    + all_of_first ts level r level

-- the same, counted up to the greatest number that is counted
abbrev pub sum : List Task → (level r : ℕ) → ℕ
sum ts level r = cap (sum_of_parts ts level r)

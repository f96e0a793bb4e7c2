-- Measures put together. Costs count up to 1,000,000,001, heights and lengths up to 2,147,483,647.
use Rattle.std.specs.Prelude.{ℕ, ◌+◌, ◌*◌, min, max, List, Option, Some, None, slice_get}
use Rattle.base.specs.Capped.{cap}
use Rattle.base.specs.declared.capped.Cost.{Cost}
use Rattle.valid_image.specs.Found.{amount}
use Rattle.code_cost.specs.declared.measure.Measure.{Measure}
use Rattle.code_cost.specs.declared.measure.RoutineMeasure.{RoutineMeasure}

abbrev pub held : ℕ → ℕ
held n = min n 2147483647

-- costs one after another
abbrev pub added : Cost → Cost → Cost
added c d = amount (cap (c.run + d.run)) (cap (c.susp + d.susp)) (cap (c.waits + d.waits))

-- the larger of each component
abbrev pub larger : Cost → Cost → Cost
larger c d = amount (max c.run d.run) (max c.susp d.susp) (max c.waits d.waits)

abbrev pub running : ℕ → Cost
running n = amount n 0 0

-- nothing at all
abbrev pub nothing : Measure
nothing = record { cost = running 0; height = 0; length = 0 }

-- so many ticks, words and instructions
abbrev pub of : (ticks height length : ℕ) → Measure
of t h n = record { cost = running t; height = h; length = n }

-- one after another; the second begins at the height at which the first began
abbrev pub joined : Measure → Measure → Measure
joined a b = record { cost = added a.cost b.cost; height = max a.height b.height; length = held (a.length + b.length) }

-- above so many words
abbrev pub above : ℕ → Measure → Measure
above n a = record { cost = a.cost; height = held (n + a.height); length = a.length }

-- JZ, the first arm and its JMP, or the second arm
abbrev pub forked : Measure → Measure → Measure
forked a b = record {
  cost = added (running 2) (larger (added (running 1) a.cost) b.cost);
  height = max a.height b.height;
  length = held (2 + held (a.length + b.length));
}

-- so many turns of a body: PUSH, STL and REPS once, then each turn the body, LDL, PUSH, ADD, STL
-- and REP
abbrev pub looped : (turns : ℕ) → Measure → Measure
looped t a = record {
  cost = amount (cap (5 + cap (cap t * cap (a.cost.run + 10)))) (cap (cap t * a.cost.susp)) (cap (cap t * a.cost.waits));
  height = held (1 + max a.height 2);
  length = held (8 + a.length);
}

-- the row of a routine, and a row that says nothing
abbrev pub no_row : RoutineMeasure
no_row = record { cost = running 0; stay = 0; height = 0; words = 0; length = 0 }

abbrev pub row_or : Option RoutineMeasure → RoutineMeasure
row_or None = no_row
row_or (Some k) = k

abbrev pub row_at : List RoutineMeasure → ℕ → RoutineMeasure
row_at rows n = row_or (slice_get rows n)

-- the arguments, and the call of a routine of which this is known: CALL, two words, its locals, and
-- what it takes itself
abbrev pub called : RoutineMeasure → Measure → Measure
called k a = record {
  cost = added a.cost (added (running 6) k.cost);
  height = max a.height (held (held (2 + k.words) + k.height));
  length = held (a.length + 1);
}

-- the call of nothing: arguments alone
abbrev pub uncalled : Measure → Measure
uncalled a = record { cost = running 0; height = a.height; length = 0 }

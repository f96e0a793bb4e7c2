-- A run that is drawn.
use Rattle.std.specs.Prelude.{◌≡◌, ◌<◌, ◌-◌, ℕ, List, [], Some, length, map, slice_get}
use Rattle.std.specs.List.{range_with_len}
use Rattle.base.specs.declared.event.Event.{Event}
use Rattle.machine_semantics.specs.Image.{Image, Script}
use Rattle.machine_semantics.specs.Run.{at_start, events_from}
use Rattle.run_chart.specs.declared.columns.Columns.{Columns}
use Rattle.run_chart.specs.declared.letter.Letter.TheVariants.{Blank}
use Rattle.run_chart.specs.Letters.{drawn, first_of, letter_at}
use Rattle.run_chart.specs.Spans.{columns_of, first_tick, shown}
use Rattle.run_chart.specs.declared.trace.Trace.{Trace}
use Rattle.run_chart.specs.Columns.{AreFew}
use Rattle.run_chart.specs.Traces.{Counts}
use Rattle.vm_runner.specs.Standing.{StandsIn}
use Rattle.vm_chart.specs.declared.course.Course.{Course}

-- the event falls in a run
abbrev pub IsBeforeLastTick : Event → Type 0
IsBeforeLastTick e = e.tick < 1000000000

-- the events before tick t
abbrev pub events_before : Image → Script → (t : ℕ) → List Event
events_before image script t = events_from image script t 0 (at_start image)

-- the columns are those of their ticks, and few
pub record AreColumns (columns : Columns) : Type 0 where
  pub are : columns ≡ columns_of columns.first columns.end
  pub few : AreFew columns

-- which run is drawn in which columns, and how many of them are over
pub record Drawing : Type 0 where
  pub image : Image
  pub script : Script
  pub columns : Columns
  pub column : ℕ

-- a tick from which on events are noted
pub record Passing : Type 0 where
  pub drawing : Drawing
  pub from : ℕ

-- the first tick of the column that is not over
abbrev pub begins : Drawing → ℕ
begins d = first_tick d.columns d.column

-- process k is drawn: the columns that are over, the letters of the next up to before tick u, and
-- the events before tick t
pub record IsDrawnTo (d : Drawing) (u t k : ℕ) (trace : Trace) : Type 0 where
  pub row : trace.row ≡ map (λ i. drawn (shown d.image d.script d.columns k i)) (range_with_len 0 d.column)
  pub letter : trace.letter ≡ first_of (map (letter_at d.image d.script k) (range_with_len (begins d) (u - begins d)))
  pub counts : Counts k d.columns.first (events_before d.image d.script t) trace

-- nothing of a process is drawn
pub record IsFresh (trace : Trace) : Type 0 where
  pub row : trace.row ≡ []
  pub letter : trace.letter ≡ Blank
  pub counts : (k first : ℕ) → Counts k first [] trace

-- what is kept of process k is so, for each
abbrev pub Each : (ℕ → Trace → Type 0) → List Trace → Type 0
Each P traces = (k : ℕ) (trace : Trace) → slice_get traces k ≡ Some trace → P k trace

-- the machine stands in the run, and all processes are drawn up to its tick
pub record Follows (d : Drawing) (course : Course) : Type 0 where
  pub stands : StandsIn d.image d.script course.machine
  pub count : length course.traces.items ≡ length d.image.processes
  pub each : Each (IsDrawnTo d course.machine.tick course.machine.tick) course.traces.items

-- Ticks in which nothing starts.
use Rattle.std.specs.Prelude.{◌≡◌, ◌≢◌, ◌<◌, ◌+◌, ℕ, false, Some, slice_get}
use Rattle.machine_semantics.specs.Image.{Image, Process, Script, Line, Sets, Occurs}
use Rattle.machine_semantics.specs.State.{Job, Thread, Waiting, State}
use Rattle.machine_semantics.specs.Starts.{is_periodic_due}

-- the tick of a line of a script
abbrev pub line_tick : Line → ℕ
line_tick (Sets u d v) = u
line_tick (Occurs u e) = u

-- no start event and no line falls on tick u
pub record IsQuiet (image : Image) (script : Script) (u : ℕ) (s : State) : Type 0 where
  pub lines : (i : ℕ) (l : Line) → slice_get script.lines i ≡ Some l → line_tick l ≢ u
  pub releases : (k : ℕ) (p : Process) → slice_get image.processes k ≡ Some p → is_periodic_due u p ≡ false
  pub waits : (k c e : ℕ) (job : Job) → slice_get s.threads k ≢ Some (Waiting c u e job)

-- nor on any tick after t and before t + n
abbrev pub AreQuiet : Image → Script → ℕ → ℕ → State → Type 0
AreQuiet image script t n s = (u : ℕ) → t < u → u < t + n → IsQuiet image script u s

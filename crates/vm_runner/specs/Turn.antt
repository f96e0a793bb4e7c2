-- A turn of a run.
use Rattle.std.specs.Prelude.{◌≡◌, ◌≢◌, ◌≤◌, ◌<◌, ◌+◌, ◌++◌, ◌^◌, ℕ, false, List, Some, slice_get}
use Rattle.base.specs.declared.event.Event.{Event}
use Rattle.machine_semantics.specs.Image.{Image, Script}
use Rattle.machine_semantics.specs.State.{Job, Ready, State}
use Rattle.vm_instructions.specs.declared.burst.Halt.{Halt}
use Rattle.vm_instructions.specs.declared.burst.Halt.TheVariants as halt
use Rattle.vm_state.specs.declared.decoded_image.DecodedImage.{DecodedImage}
use Rattle.vm_state.specs.declared.machine_state.MachineState.{MachineState}
use Rattle.vm_state.specs.Board.{IsBoardOf, state_of}
use Rattle.vm_state.specs.Plan.{IsOf}
use Rattle.vm_stretch.specs.Quiet.{AreQuiet}
use Rattle.vm_stretch.specs.StretchDue.{time_out_of}
use Rattle.vm_runner.specs.Course.{Course, GoesBySteps, IsStep, begun, started}
use Rattle.vm_runner.specs.Waits.{WaitsFrom, is_some_at_queue}

-- an image and a script: whose run it is
pub record Run : Type 0 where
  pub image : Image
  pub script : Script

-- after the start events of tick t, process k is chosen, and nothing starts for so many ticks; and
-- code has the plan and the board of then
pub record CanTurn (c : Course) (t most k : ℕ) (known : DecodedImage) (b : MachineState) : Type 0 where
  pub goes : GoesBySteps c
  pub plan : IsOf c.image known
  pub board : IsBoardOf c.image b
  pub begun : state_of b ≡ begun c t
  pub chosen : c.chosen t ≡ Some k
  pub quiet : AreQuiet c.image c.script t most (state_of b)
  pub some : 1 ≤ most
  pub end : t + most < 2 ^ 63

-- From tick t on, whose start events were done, n ticks of the run have passed: the state is that
-- after them, and what fell in them stands after the events before.
pub record HasPassed (c : Course) (t n : ℕ) (s : State) (before after : List Event) : Type 0 where
  pub some : 1 ≤ n
  pub step : IsStep c t n
  pub state : s ≡ c.state (t + n)
  pub fell : List Event
  pub told : after ≡ before ++ fell
  pub events : c.events n t ≡ started c t ++ fell
  -- each wait is an old one, or times out no earlier than the tick that comes next; and where
  -- nothing fell at a queue all are old
  pub waits : WaitsFrom (t + n) (begun c t).threads s.threads
  pub same : is_some_at_queue fell ≡ false → (j : ℕ) → time_out_of (slice_get s.threads j) ≡ time_out_of (slice_get (begun c t).threads j)
  -- and all but the process that was chosen stand as they did
  pub alone : is_some_at_queue fell ≡ false → (j : ℕ) → c.chosen t ≢ Some j → slice_get s.threads j ≡ slice_get (begun c t).threads j

-- process k, where it is ready, has no tick of dispatch to burn
abbrev pub BurnsNothing : State → ℕ → Type 0
BurnsNothing s k = (job : Job) → slice_get s.threads k ≡ Some (Ready job) → job.dispatch_ticks ≡ 0

-- the ticks that a row left of those that it had
abbrev pub unspent : Halt → ℕ
unspent halt.Spent = 0
unspent (halt.Raises left number) = left
unspent (halt.Sees left) = left

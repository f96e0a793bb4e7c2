-- What a dispatch knows as its run goes on.
use Rattle.std.specs.Prelude.{◌≡◌, ◌≢◌, ◌+◌, ℕ, false, List, Some, slice_get, slice_set}
use Rattle.base.specs.declared.event.Event.{Event}
use Rattle.machine_semantics.specs.Image.{Image, Script}
use Rattle.machine_semantics.specs.State.{Job, Ready, State}
use Rattle.vm_state.specs.declared.decoded_image.DecodedImage.{DecodedImage}
use Rattle.vm_state.specs.declared.machine_state.MachineState.{MachineState}
use Rattle.vm_state.specs.Board.{IsBoardOf, state_of}
use Rattle.vm_state.specs.Plan.{IsOf}
use Rattle.vm_runner.specs.Course.{Behaviour, Course, IsStep, begun, course}
use Rattle.vm_runner.specs.Waits.{is_some_at_queue}

-- where a run is: before tick t; there, and its start events are begun; at tick t, and they are done;
-- before tick t, between two rows; in a row from tick t on, whose start events are done
pub data Phase : Type 0 where
  Before : ℕ → Phase
  Starting : ℕ → Phase
  Begun : ℕ → Phase
  Between : ℕ → Phase
  InRow : ℕ → Phase

-- a tick of a run
pub record At : Type 0 where
  pub image : Image
  pub script : Script
  pub tick : ℕ

-- the state then; where start events are begun, the state after them
abbrev pub state_in : Course → Phase → State
state_in c (Before t) = c.state t
state_in c (Starting t) = begun c t
state_in c (Begun t) = begun c t
state_in c (Between t) = c.state t
state_in c (InRow t) = begun c t

-- by dispatch what it knows
abbrev pub Knowing : Type 0 → Type 1
Knowing D = Image → Script → Phase → D → Type 0

-- the dispatch knows what it has to then, and the board is that of the run
pub record Sees {D : Type 0} (behaviour : Image → Script → Behaviour) (Knows : Knowing D) (phase : ℕ → Phase) (b : MachineState) (d : D) (at : At) : Type 0 where
  pub board : IsBoardOf at.image b
  pub state : state_of b ≡ state_in (course behaviour at.image at.script) (phase at.tick)
  pub knows : Knows at.image at.script (phase at.tick) d

-- and the plan is that of its image
pub record Plans {D : Type 0} (behaviour : Image → Script → Behaviour) (Knows : Knowing D) (phase : ℕ → Phase) (known : DecodedImage) (b : MachineState) (d : D) (at : At) : Type 0 where
  pub plan : IsOf at.image known
  pub sees : Sees behaviour Knows phase b d at

-- so, and nothing is due at the tick
pub record Rests {D : Type 0} (behaviour : Image → Script → Behaviour) (Knows : Knowing D) (known : DecodedImage) (b : MachineState) (d : D) (at : At) : Type 0 where
  pub plans : Plans behaviour Knows Between known b d at
  pub calm : begun (course behaviour at.image at.script) at.tick ≡ (course behaviour at.image at.script).state at.tick

-- ticks of a run
pub record Ticks : Type 0 where
  pub image : Image
  pub script : Script
  pub tick : ℕ
  pub count : ℕ

-- process `who` has had a row of so many ticks, in which these events fell; where none of them is at
-- a queue, all others stand as before
pub record HasGone {D : Type 0} (behaviour : Image → Script → Behaviour) (Knows : Knowing D) (known : DecodedImage) (b : MachineState) (who : ℕ) (events : List Event) (d : D) (run : Ticks) : Type 0 where
  pub plan : IsOf run.image known
  pub board : IsBoardOf run.image b
  pub state : state_of b ≡ (course behaviour run.image run.script).state (run.tick + run.count)
  pub knows : Knows run.image run.script (InRow run.tick) d
  pub step : IsStep (course behaviour run.image run.script) run.tick run.count
  pub alone : is_some_at_queue events ≡ false → (j : ℕ) → j ≢ who → slice_get (state_of b).threads j ≡ slice_get (begun (course behaviour run.image run.script) run.tick).threads j

-- after n ticks from tick t on process k, which was chosen, goes on as it stood: nothing is due, it
-- is ready, inside the same monitor or none, and all others stand as before
pub record GoesOn (c : Course) (t n k : ℕ) : Type 0 where
  pub step : IsStep c t n
  pub chosen : c.chosen t ≡ Some k
  pub calm : begun c (t + n) ≡ c.state (t + n)
  pub job : Job
  pub ready : slice_get (begun c t).threads k ≡ Some (Ready job)
  pub new : Job
  pub inside : new.inside ≡ job.inside
  pub threads : (c.state (t + n)).threads ≡ slice_set (begun c t).threads k (Ready new)

-- it is chosen again, and what the dispatch knows in a row it knows in the next
pub record IsAgain {D : Type 0} (behaviour : Image → Script → Behaviour) (Knows : Knowing D) (run : Ticks) (who : ℕ) : Type 0 where
  pub chosen : (behaviour run.image run.script).chosen (run.tick + run.count) ≡ Some who
  pub knows : (d : D) → Knows run.image run.script (InRow run.tick) d → Knows run.image run.script (InRow (run.tick + run.count)) d

-- What is proved of what is looked at.
use Rattle.std.specs.Prelude.{◌≡◌, ◌↔◌, ℕ, ℤ, List, true, false, None, Some, IsSome, length, slice_get}
use Rattle.machine_isa.specs.declared.instr.Instr.{Instr}
use Rattle.machine_semantics.specs.Image.{Image, Monitor, Process, Script}
use Rattle.machine_semantics.specs.State.{Job, Thread, State, is_free, thread_inside}
use Rattle.machine_semantics.specs.Effect.{Own, Goes, effect}
use Rattle.machine_semantics.specs.Tick.{at_next, outcome}
use Rattle.machine_semantics.specs.Run.{state_at}
use Rattle.valid_image.specs.Valid.{HasLimits, IsValid}
use Rattle.vm_stretch.specs.Completed.{completes}
use Rattle.vm_stretch.specs.View.{monitor_words, occupant, process_words}

-- each process, and each monitor, has as many words as it declares
pub record HasItsWords (image : Image) (s : State) : Type 0 where
  pub processes : (k : ℕ) (p : Process) → slice_get image.processes k ≡ Some p → length (process_words s k) ≡ p.words
  pub monitors : (m : ℕ) (monitor : Monitor) → slice_get image.monitors m ≡ Some monitor → length (monitor_words image s m) ≡ monitor.words

-- The law: in the runs of a valid image, before each tick, each has.
abbrev pub WordsAreDeclared : Type 0
WordsAreDeclared = (image : Image) → HasLimits image → IsValid image → (script : Script) (t : ℕ) → HasItsWords image (state_at image script t)

-- process k stands so that it is inside monitor m
pub record IsInside (s : State) (m k : ℕ) : Type 0 where
  pub thread : Thread
  pub there : slice_get s.threads k ≡ Some thread
  pub inside : thread_inside m thread ≡ true

-- The law: the occupant of a monitor is inside it, and there is none exactly where the monitor is
-- free.
abbrev pub OccupantIsInside : Type 0
OccupantIsInside = (s : State) (m : ℕ) → ((k : ℕ) → occupant s m ≡ Some k → IsInside s m k) × ((occupant s m ≡ None) ↔ (is_free m s.threads ≡ true))

-- the tick of the activation is the effect of its instruction
pub record HasEffect (image : Image) (s : State) (job : Job) (owned : List ℤ) : Type 0 where
  pub instr : Instr
  pub there : slice_get image.code job.place ≡ Some instr
  pub effect : outcome image s job owned job.dispatch_ticks ≡ effect image s instr (record { job = at_next job; owned = owned; shared = s.shared })

-- the tick of the activation leaves it at its instruction, and nobody sees it
pub record StaysAt (image : Image) (s : State) (job : Job) (owned : List ℤ) : Type 0 where
  pub own : Own
  pub goes : outcome image s job owned job.dispatch_ticks ≡ Goes own
  pub place : own.job.place ≡ job.place

-- The law: where an activation that is at an instruction completes it in its next tick, that tick
-- has the instruction's effect; where it does not, it stays at it.
abbrev pub CompletedHasEffect : Type 0
CompletedHasEffect = (image : Image) (s : State) (job : Job) (owned : List ℤ) → IsSome (slice_get image.code job.place)
    → (completes image job job.dispatch_ticks ≡ true → HasEffect image s job owned) × (completes image job job.dispatch_ticks ≡ false → StaysAt image s job owned)

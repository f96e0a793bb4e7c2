-- A row of instructions of one process of many.
use Rattle.std.specs.Prelude.{◌≡◌, ◌<◌, ◌-◌, ◌++◌, ℕ, List, false, Option, Some, None, slice_get}
use Rattle.machine_isa.specs.declared.instr.Instr.{Instr}
use Rattle.base.specs.declared.event.Event.{Event}
use Rattle.machine_semantics.specs.Image.{Image, Process}
use Rattle.machine_semantics.specs.State.{Job, Ready, State}
use Rattle.machine_semantics.specs.Effect.{Own, Outcome, Goes, Raises, Stuck, effect}
use Rattle.machine_semantics.specs.Tick.{owned_of, settle}
use Rattle.vm_stretch.specs.Silent.{IsSafeFor, is_silent, with_process}
use Rattle.vm_instructions.specs.declared.burst.Halt.{Halt}
use Rattle.vm_instructions.specs.declared.burst.Halt.TheVariants as halt
use Rattle.vm_instructions.specs.Rows.{Runs}
use Rattle.vm_instructions.specs.Silent.{job_of, own_of}
use Rattle.vm_state.specs.declared.threads.ControlBlock.{ControlBlock}
use Rattle.vm_state.specs.Threads.{thread_of}
use Rattle.vm_state.specs.declared.decoded_image.DecodedProcess.{DecodedProcess as Known}
use Rattle.vm_state.specs.Plan.{IsProcess}
use Rattle.vm_turn.specs.declared.outcome.Outcome.{Outcome as Come}
use Rattle.vm_turn.specs.Own.{Around, CanCome}
use Rattle.vm_turn.specs.Settled.{after, with_thread}

-- the activation with the words of process k and those of all monitors
abbrev pub own_at : ℕ → Job → State → Own
own_at k job s = record { job = job; owned = owned_of (slice_get s.owned k); shared = s.shared }

-- process k is ready, and can take so many ticks
pub record CanRun (image : Image) (budget k : ℕ) (s : State) : Type 0 where
  pub p : Process
  pub process : slice_get image.processes k ≡ Some p
  pub job : Job
  pub ready : slice_get s.threads k ≡ Some (Ready job)
  pub safe : IsSafeFor image p.stack (own_at k job s) budget

-- it has run, and all else is as it was
abbrev pub HasRun : Image → ℕ → ℕ → State → Halt → State → Type 0
HasRun image budget k old halt new = (job : Job) → slice_get old.threads k ≡ Some (Ready job) → (o : Own) × Runs image (own_at k job old) budget halt o × (new ≡ with_process k o old)

-- the effect of the instruction, if there is one
abbrev pub effect_of : Image → State → Option Instr → Own → Outcome
effect_of image s None o = Stuck
effect_of image s (Some instr) o = effect image s instr o

-- what a row that halted so comes to in its last tick, where the process stands so: at the
-- instruction after the one that others see
abbrev pub outcome_of : Image → State → Halt → Own → Outcome
outcome_of image s halt.Spent o = Goes o
outcome_of image s (halt.Raises left number) o = Raises number
outcome_of image s (halt.Sees left) o = effect_of image s (slice_get image.code (o.job.place - 1)) o

-- where it halted at an instruction that others see, it is at the next
abbrev pub IsSeenAt : Image → Halt → ℕ → Type 0
IsSeenAt image (halt.Sees left) place = (0 < place) × ((instr : Instr) → slice_get image.code (place - 1) ≡ Some instr → is_silent instr ≡ false)
IsSeenAt image _ place = Unit {0}

-- process k, which is ready, can end its row
pub record CanEnd (image : Image) (k : ℕ) (s : State) (h : Halt) : Type 0 where
  pub p : Process
  pub process : slice_get image.processes k ≡ Some p
  pub job : Job
  pub ready : slice_get s.threads k ≡ Some (Ready job)
  pub seen : IsSeenAt image h job.place
  pub can : CanCome p.stack (outcome_of image s h (own_at k job s))

-- the last tick t of a row of process k, which stands so, comes to what is left to do in the state
-- where it stands anew
abbrev pub EndsAs : Around → (t k : ℕ) → Known → ControlBlock → Halt → Come → ControlBlock → Type 0
EndsAs at t k known old h come new =
    (whole : Process) → IsProcess whole known → at.owned ≡ owned_of (slice_get at.state.owned k) → at.shared ≡ at.state.shared
    → settle at.image t k whole (job_of old.job) at.state (outcome_of at.image at.state h (own_of old.job at.owned at.shared)) ≡ after at.image t k come (with_thread k (thread_of new) at.owned at.shared at.state)

-- the last tick t of a row of process k comes to what is left to do in the new state
abbrev pub HasEnded : Image → (t k : ℕ) → State → Halt → Come → State → Type 0
HasEnded image t k old h come new =
    (p : Process) (job : Job) → slice_get image.processes k ≡ Some p → slice_get old.threads k ≡ Some (Ready job)
    → settle image t k p job old (outcome_of image old h (own_at k job old)) ≡ after image t k come new

-- the last tick t of a row of process k leads to the new state, and has these events
abbrev pub EndsIn : Image → (t k : ℕ) → State → Halt → State → List Event → List Event → Type 0
EndsIn image t k old h new before events =
    (p : Process) (job : Job) → slice_get image.processes k ≡ Some p → slice_get old.threads k ≡ Some (Ready job)
    → (new ≡ (settle image t k p job old (outcome_of image old h (own_at k job old))).state)
    × (events ≡ before ++ (settle image t k p job old (outcome_of image old h (own_at k job old))).events)

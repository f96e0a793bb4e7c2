-- What a turn completes.
use Rattle.std.specs.Prelude.{◌≡◌, ◌<◌, ◌+◌, ℕ, zero, suc, Bool, false, List, Option, Some, None, if◌then◌else◌, nat_le, slice_get}
use Rattle.machine_isa.specs.declared.instr.Instr.{Instr}
use Rattle.machine_isa.specs.Ticks.{ticks}
use Rattle.machine_semantics.specs.Image.{Image, Script}
use Rattle.machine_semantics.specs.State.{Job, Thread, Idle, Ready, Waiting, State}
use Rattle.machine_semantics.specs.Tick.{pick}
use Rattle.vm_instructions.specs.declared.activation.Activation.{Activation as Kept}
use Rattle.vm_instructions.specs.Silent.{job_of}
use Rattle.vm_state.specs.declared.machine_state.MachineState.{MachineState}
use Rattle.vm_state.specs.Board.{state_of}
use Rattle.vm_stretch.specs.Stretch.{place_of}
use Rattle.vm_stretch.specs.declared.completed.Completed.{Completed}
use Rattle.vm_stretch.specs.Completed.{last_completed}

-- where so many ticks of the instruction have passed, its last is among the next n
abbrev pub is_last_within : ℕ → ℕ → Option Instr → Bool
is_last_within n done (Some instr) = nat_le (ticks instr) (done + n)
is_last_within n done None = false

-- the activation completes its instruction in n ticks at once, no more than are left of what it is
-- at: it has no ticks of dispatch to burn
abbrev pub completes_within : Image → ℕ → Job → ℕ → Bool
completes_within image n job (suc dispatch_ticks) = false
completes_within image n job zero = is_last_within n job.done (slice_get image.code job.place)

-- the instruction that process k, which stands so, completes in so many ticks at once
abbrev pub completed_within_by : Image → ℕ → ℕ → Option Thread → Option Completed
completed_within_by image n k (Some (Ready job)) = if completes_within image n job job.dispatch_ticks then Some (record { process = k; at = job.place }) else None
completed_within_by image n k (Some (Waiting condition due number job)) = None
completed_within_by image n k (Some Idle) = None
completed_within_by image n k None = None

abbrev pub completed_within_picked : Image → ℕ → State → Option ℕ → Option Completed
completed_within_picked image n s None = None
completed_within_picked image n s (Some k) = completed_within_by image n k (slice_get s.threads k)

-- that of the process that is picked
abbrev pub completed_within : Image → ℕ → State → Option Completed
completed_within image n s = completed_within_picked image n s (place_of (pick image s.threads))

-- ---- in code

-- whether the activation completes its instruction in so many ticks
abbrev pub TellsWithin : List Instr → Kept → ℕ → Bool → Type 0
TellsWithin code job n answer = (image : Image) → image.code ≡ code → answer ≡ completes_within image n (job_of job) job.dispatch_ticks

-- the instruction that process k, which is ready, completes in so many ticks
abbrev pub TellsOf : List Instr → MachineState → ℕ → ℕ → Option Completed → Type 0
TellsOf code b k n answer = (image : Image) (job : Job) → image.code ≡ code → slice_get (state_of b).threads k ≡ Some (Ready job) → answer ≡ completed_within_by image n k (Some (Ready job))

-- ---- in a run

-- between two ticks of a run, no instruction has its effect but in the last tick that passes
abbrev pub NoneBetween : Image → Script → ℕ → ℕ → Type 0
NoneBetween image script from to = (t : ℕ) → from < t → t < to → last_completed image script t ≡ None

-- The instruction whose effect comes in a tick. A process does one instruction for all its ticks,
-- and its effect comes in the last of them.
use Rattle.std.specs.Prelude.{◌+◌, ℕ, zero, suc, Bool, false, Option, Some, None, if◌then◌else◌, nat_le, slice_get}
use Rattle.machine_isa.specs.declared.instr.Instr.{Instr}
use Rattle.machine_isa.specs.Ticks.{ticks}
use Rattle.machine_semantics.specs.Image.{Image, Script}
use Rattle.machine_semantics.specs.State.{Job, Thread, Idle, Ready, Waiting, State}
use Rattle.machine_semantics.specs.Tick.{pick}
use Rattle.vm_stretch.specs.RowLaws.{begun}
use Rattle.vm_stretch.specs.Stretch.{place_of}
use Rattle.vm_stretch.specs.declared.completed.Completed.{Completed}

-- where so many ticks of the instruction have passed, its last comes next
abbrev pub is_last_next : ℕ → Option Instr → Bool
is_last_next done (Some instr) = nat_le (ticks instr) (done + 1)
is_last_next done None = false

-- the activation does the last tick of its instruction next: it has no ticks of dispatch to burn
abbrev pub completes : Image → Job → ℕ → Bool
completes image job (suc dispatch_ticks) = false
completes image job zero = is_last_next job.done (slice_get image.code job.place)

-- the instruction that process k, which stands so, completes if it runs for a tick
abbrev pub completed_by : Image → ℕ → Option Thread → Option Completed
completed_by image k (Some (Ready job)) = if completes image job job.dispatch_ticks then Some (record { process = k; at = job.place }) else None
completed_by image k (Some (Waiting condition due number job)) = None
completed_by image k (Some Idle) = None
completed_by image k None = None

-- the instruction that the process which was picked completes; none where none was
abbrev pub completed_picked : Image → State → Option ℕ → Option Completed
completed_picked image s None = None
completed_picked image s (Some k) = completed_by image k (slice_get s.threads k)

-- the instruction whose effect comes in a tick, from the state after its start events: none in an
-- idle tick, in a tick of dispatch, and in any but the last tick of an instruction
abbrev pub completed_in : Image → State → Option Completed
completed_in image s = completed_picked image s (place_of (pick image s.threads))

-- that of tick t of a run
abbrev pub completed_at : Image → Script → ℕ → Option Completed
completed_at image script t = completed_in image (begun image script t)

-- that of the last tick that has passed before tick t of a run; none at its start
abbrev pub last_completed : Image → Script → ℕ → Option Completed
last_completed image script zero = None
last_completed image script (suc t) = completed_at image script t

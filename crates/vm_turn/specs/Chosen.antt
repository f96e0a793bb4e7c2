-- Which process runs, and how long it stays at what it is at.
use Rattle.std.specs.Prelude.{◌≡◌, ℕ, List, Option, Some, map, slice_get}
use Rattle.vm_stretch.specs.declared.choice.Contender.{Contender}
use Rattle.machine_semantics.specs.Image.{Image, Monitor, Process}
use Rattle.machine_semantics.specs.State.{Job, Ready}
use Rattle.machine_semantics.specs.Tick.{ceiling, pick}
use Rattle.vm_stretch.specs.Picks.{Stands}
use Rattle.vm_stretch.specs.Stretch.{left, place_of}
use Rattle.vm_state.specs.declared.threads.ControlBlock.{ControlBlock}
use Rattle.vm_state.specs.Threads.{thread_of}
use Rattle.vm_instructions.specs.declared.activation.Activation.{Activation as Kept}
use Rattle.vm_instructions.specs.Silent.{job_of}
use Rattle.machine_isa.specs.declared.instr.Instr.{Instr}
use Rattle.vm_state.specs.declared.decoded_image.DecodedImage.{DecodedImage}
use Rattle.vm_state.specs.declared.decoded_image.DecodedProcess.{DecodedProcess as Known}
use Rattle.vm_state.specs.declared.machine_state.MachineState.{MachineState}
use Rattle.vm_state.specs.Plan.{IsOf, IsProcess}
use Rattle.vm_state.specs.Board.{IsBoardOf, state_of}

-- so many ticks are left of what the activation is at
abbrev pub IsLeftOf : List Instr → Kept → ℕ → Type 0
IsLeftOf code job n = (image : Image) → image.code ≡ code → n ≡ left image (job_of job)

-- so many ticks are left of what process k is at, where it is ready
abbrev pub IsLeft : DecodedImage → MachineState → ℕ → ℕ → Type 0
IsLeft plan b k n = (image : Image) (job : Job) → IsOf image plan → slice_get (state_of b).threads k ≡ Some (Ready job) → n ≡ left image job

-- the ceiling of the monitor; 0 where there is none
abbrev pub IsCeiling : List ℕ → ℕ → ℕ → Type 0
IsCeiling ceilings m c = (image : Image) → map (λ (x : Monitor). x.ceiling) image.monitors ≡ ceilings → c ≡ ceiling (slice_get image.monitors m)

-- the process stands so in the choice
abbrev pub StandsIn : DecodedImage → Known → ControlBlock → Contender → Type 0
StandsIn plan known c s = (image : Image) (p : Process) → IsOf image plan → IsProcess p known → Stands image p (thread_of c) s

-- the process is the one that is picked
abbrev pub IsPick : DecodedImage → MachineState → Option ℕ → Type 0
IsPick plan b k = (image : Image) → IsOf image plan → IsBoardOf image b → k ≡ place_of (pick image (state_of b).threads)

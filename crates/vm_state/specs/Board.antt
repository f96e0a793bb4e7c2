-- The board as the machine's state.
use Rattle.std.specs.Prelude.{◌≡◌, ℕ, ℤ, List, length, map}
use Rattle.std.specs.Global.{Vec}
use Rattle.machine_semantics.specs.Image.{Image, Process}
use Rattle.machine_semantics.specs.State.{State}
use Rattle.machine_semantics.specs.Run.{at_start}
use Rattle.vm_state.specs.declared.threads.ControlBlock.{ControlBlock}
use Rattle.vm_state.specs.Threads.{rooms_of, threads_of}
use Rattle.vm_state.specs.declared.decoded_image.DecodedImage.{DecodedImage}
use Rattle.vm_state.specs.declared.machine_state.MachineState.{MachineState}
use Rattle.vm_state.specs.Plan.{IsOf}

-- by process the words that it keeps
abbrev pub rows_of : List (Vec ℤ) → List (List ℤ)
rows_of vs = map (λ (v : Vec ℤ). v.items) vs

-- where the machine stands
abbrev pub state_of : MachineState → State
state_of b = record { threads = threads_of b.cells.items; owned = rows_of b.owned.items; shared = b.shared.items; queues = b.queues; devices = b.devices.items }

-- The board has a place for all that the image has: each process has the stack that it declares.
pub record IsBoardOf (image : Image) (b : MachineState) : Type 0 where
  pub rooms : rooms_of b.cells.items ≡ map (λ (p : Process). p.stack) image.processes
  pub owned : length b.owned.items ≡ length image.processes
  pub queues : length b.queues ≡ length image.conditions
  pub devices : length b.devices.items ≡ length image.devices

-- the board is that at the start of every image that has this plan
abbrev pub Begins : DecodedImage → MachineState → Type 0
Begins plan b = (image : Image) → IsOf image plan → (state_of b ≡ at_start image) × IsBoardOf image b

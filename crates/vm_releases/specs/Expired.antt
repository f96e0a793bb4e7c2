-- The time-out of a process in code.
use Rattle.std.specs.Prelude.{◌≡◌, ℕ, Option, Some, None}
use Rattle.machine_semantics.specs.Image.{Process as Whole}
use Rattle.machine_semantics.specs.State.{Job, Thread, Idle, Ready, Waiting}
use Rattle.machine_semantics.specs.Starts.{raised}
use Rattle.vm_state.specs.declared.threads.ControlBlock.{ControlBlock}
use Rattle.vm_state.specs.Threads.{thread_of}
use Rattle.vm_state.specs.declared.decoded_image.DecodedProcess.{DecodedProcess}
use Rattle.vm_state.specs.Plan.{IsProcess}
use Rattle.vm_releases.specs.declared.time_out.Wait.{Wait}

-- the process is ready, with its number raised and so many ticks to burn
abbrev pub timed_out : Whole → ℕ → ℕ → Job → Thread
timed_out whole dispatch_ticks e job = Ready (record (raised whole e job) { dispatch_ticks = dispatch_ticks })

-- the process that stood so waited, and its wait has timed out; if it did not wait, nothing was
-- done
abbrev pub EndsAs : DecodedProcess → ℕ → Thread → Option Wait → Thread → Type 0
EndsAs p dispatch_ticks (Waiting c due e job) (Some w) new = (w.condition ≡ c) × (w.number ≡ e) × ((whole : Whole) → IsProcess whole p → new ≡ timed_out whole dispatch_ticks e job)
EndsAs p dispatch_ticks (Waiting c due e job) None new = ⊥
EndsAs p dispatch_ticks Idle w new = w ≡ None
EndsAs p dispatch_ticks (Ready job) w new = w ≡ None

abbrev pub IsTimedOut : DecodedProcess → ℕ → ControlBlock → Option Wait → ControlBlock → Type 0
IsTimedOut p dispatch_ticks old w new = EndsAs p dispatch_ticks (thread_of old) w (thread_of new)

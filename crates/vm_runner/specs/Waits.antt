-- Waits that begin or end in a turn.
use Rattle.std.specs.Prelude.{◌≡◌, ◌≤◌, ◌⊎◌, ◌||◌, ℕ, Bool, true, false, List, [], ◌∷◌, Option, Some, slice_get}
use Rattle.base.specs.declared.event.Event.{Event}
use Rattle.base.specs.declared.event.Act.{Act}
use Rattle.base.specs.declared.event.Act.TheVariants as act
use Rattle.machine_semantics.specs.State.{Job, Thread, Ready, Waiting}
use Rattle.vm_instructions.specs.Silent.{job_of}
use Rattle.vm_state.specs.declared.threads.ControlBlock.{ControlBlock}
use Rattle.vm_state.specs.Threads.{thread_of}

-- in the act a process begins to wait, or others may wait no more
abbrev pub is_at_queue : Act → Bool
is_at_queue (act.Wait c) = true
is_at_queue (act.Signal c woken) = true
is_at_queue (act.Broadcast c count) = true
is_at_queue _ = false

-- one of the events is such
abbrev pub is_some_at_queue : List Event → Bool
is_some_at_queue [] = false
is_some_at_queue (e ∷ es) = is_at_queue e.act || is_some_at_queue es

-- each wait is an old one, or times out no earlier than v
abbrev pub WaitsFrom : ℕ → List Thread → List Thread → Type 0
WaitsFrom v old new = (j c d e : ℕ) (job : Job) → slice_get new j ≡ Some (Waiting c d e job) → (slice_get old j ≡ Some (Waiting c d e job)) ⊎ (v ≤ d)

-- the process is ready inside this monitor or none, and none of the events is at a queue
pub record IsAsBefore (cell : ControlBlock) (inside : Option ℕ) (events : List Event) : Type 0 where
  pub ready : thread_of cell ≡ Ready (job_of cell.job)
  pub same : cell.job.inside ≡ inside
  pub apart : is_some_at_queue events ≡ false

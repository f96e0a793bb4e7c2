-- No queue is longer than there are processes.
use Rattle.std.proofs.Common.{◌≤◌, ◌<◌, ℕ, length, sym, subst}
use Rattle.std.specs.Prelude.{slice_get}
use Rattle.machine_semantics.specs.State.{State}
use Rattle.machine_semantics.specs.Starts.{queue_of}
use Rattle.machine_semantics.specs.Queues.{AreQueued, times}
use Rattle.vm_turn.proofs.Room.{few, once_waits, there}

-- ---- queues

pub queues_are_short : (s : State) (c : ℕ) → AreQueued s → length (queue_of s.queues c) ≤ length s.threads
queues_are_short s c queued = few (length s.threads) (queue_of s.queues c) once low where
  once : (j : ℕ) → times j (queue_of s.queues c) ≤ 1
  once j = subst (λ (n : ℕ). n ≤ 1) (sym (queued c j)) (once_waits c (slice_get s.threads j))

  low : (j : ℕ) → 0 < times j (queue_of s.queues c) → j < length s.threads
  low j some = there c j s.threads (subst (λ (n : ℕ). 0 < n) (queued c j) some)

-- What a turn leaves of the state.
use Rattle.std.specs.Prelude.{◌≡◌, ◌≤◌, ◌<◌, ◌+◌, ◌++◌, ℕ, ℤ, false, List, [], ◌∷◌, Some, length, slice_get, slice_set}
use Rattle.base.specs.declared.event.Act.TheVariants as act
use Rattle.machine_semantics.specs.Image.{Image, Process}
use Rattle.machine_semantics.specs.State.{Job, Thread, Idle, Ready, Waiting, State}
use Rattle.machine_semantics.specs.Starts.{queue_of, raised}
use Rattle.machine_semantics.specs.Tick.{Ticked, first, owned_of, rest, settle, tell, wake_all, wake_first}
use Rattle.vm_state.specs.declared.threads.ControlBlock.{ControlBlock}
use Rattle.vm_state.specs.declared.threads.SchedulingState.TheVariants as stand
use Rattle.vm_state.specs.Threads.{AreBelow, thread_of}
use Rattle.vm_instructions.specs.Silent.{job_of}
use Rattle.vm_stretch.specs.Stretch.{left, outcomes}
use Rattle.vm_state.specs.declared.decoded_image.DecodedProcess.{DecodedProcess as Kept}
use Rattle.vm_state.specs.declared.machine_state.MachineState.{MachineState}
use Rattle.vm_state.specs.Plan.{IsProcess}
use Rattle.vm_state.specs.Board.{state_of}
use Rattle.vm_turn.specs.declared.outcome.Outcome.{Outcome as Come}
use Rattle.vm_turn.specs.declared.outcome.Outcome.TheVariants as come
use Rattle.vm_turn.specs.Own.{Around, CanCome, IsEarly}

-- the state where process k stands so, with its words and those of all monitors
abbrev pub with_thread : ℕ → Thread → List ℤ → List ℤ → State → State
with_thread k thread owned shared s = record s { threads = slice_set s.threads k thread; owned = slice_set s.owned k owned; shared = shared }

-- What is left to do once process k stands as its turn leaves it: others are woken, it joins a
-- queue, and its event is told.
abbrev pub after : Image → ℕ → ℕ → Come → State → Ticked
after image t k come.Goes s = record { state = s; events = []; stuck = false }
after image t k (come.Does a) s = tell t k a s
after image t k (come.Signals c) s = tell t k (act.Signal c (first (queue_of s.queues c))) (record s { queues = slice_set s.queues c (rest (queue_of s.queues c)); threads = wake_first image (first (queue_of s.queues c)) s.threads })
after image t k (come.Broadcasts c) s = tell t k (act.Broadcast c (length (queue_of s.queues c))) (record s { queues = slice_set s.queues c []; threads = wake_all image (queue_of s.queues c) s.threads })
after image t k (come.Waits w) s = tell t k (act.Wait w.condition) (record s { queues = slice_set s.queues w.condition (queue_of s.queues w.condition ++ k ∷ []) })
after image t k (come.Raises e) s = tell t k (act.Raise e) s
after image t k come.Ends s = tell t k act.End s

-- the process stands as the outcome at tick t leaves it
abbrev pub StandsAfter : ℕ → Kept → Come → ControlBlock → ControlBlock → Type 0
StandsAfter t p (come.Waits w) old new = thread_of new ≡ Waiting w.condition (t + w.limit + 1) w.number (job_of old.job)
StandsAfter t p (come.Raises e) old new = (whole : Process) → IsProcess whole p → old.stand ≡ stand.Ready → thread_of new ≡ Ready (raised whole e (job_of old.job))
StandsAfter t p come.Ends old new = thread_of new ≡ Idle
StandsAfter t p _ old new = new ≡ old

-- so many ticks of process k, which stands so, come to what is left to do in the state where it
-- stands anew
abbrev pub SettlesAs : Around → (n t k : ℕ) → Kept → ControlBlock → Come → ControlBlock → List ℤ → List ℤ → Type 0
SettlesAs at n t k p old come new owned shared =
    (whole : Process) → IsProcess whole p → at.owned ≡ owned_of (slice_get at.state.owned k) → at.shared ≡ at.state.shared
    → settle at.image t k whole (job_of old.job) at.state (outcomes at.image at.state (job_of old.job) at.owned n old.job.dispatch_ticks) ≡ after at.image t k come (with_thread k (thread_of new) owned shared at.state)

-- Process k is ready, and can take n ticks at once: they are no more than are left of what it is
-- at, some are left, and they are not stuck and stay within its stack.
pub record CanPass (image : Image) (n k : ℕ) (s : State) : Type 0 where
  pub p : Process
  pub process : slice_get image.processes k ≡ Some p
  pub job : Job
  pub ready : slice_get s.threads k ≡ Some (Ready job)
  pub some : 1 ≤ n
  pub fits : n ≤ left image job
  pub early : IsEarly image job
  pub can : CanCome p.stack (outcomes image s job (owned_of (slice_get s.owned k)) n job.dispatch_ticks)

-- each queue has numbers of processes alone, and room for one more
abbrev pub HaveRoom : ℕ → List (List ℕ) → Type 0
HaveRoom n queues = (c : ℕ) → c < length queues → AreBelow n (queue_of queues c) × (length (queue_of queues c) < 64)

-- around process k there is the state of the board
pub record IsAround (at : Around) (k : ℕ) (b : MachineState) : Type 0 where
  pub state : at.state ≡ state_of b
  pub owned : at.owned ≡ owned_of (slice_get at.state.owned k)
  pub shared : at.shared ≡ at.state.shared

-- n ticks of process k from the old state, the last of them tick t, come to what is left to do in
-- the new
abbrev pub HasTurned : Image → (t n k : ℕ) → State → Come → State → Type 0
HasTurned image t n k old come new =
    (p : Process) (job : Job) → slice_get image.processes k ≡ Some p → slice_get old.threads k ≡ Some (Ready job)
    → settle image t k p job old (outcomes image old job (owned_of (slice_get old.owned k)) n job.dispatch_ticks) ≡ after image t k come new

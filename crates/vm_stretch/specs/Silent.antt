-- Instructions that nobody sees, and rows of them.
use Rattle.std.specs.Prelude.{◌≡◌, ◌<◌, ◌≤◌, ◌+◌, ◌-◌, ℕ, ℤ, Bool, true, false, List, [], Some, None, slice_get, slice_set}
use Rattle.machine_isa.specs.declared.instr.Instr.{Instr}
use Rattle.machine_isa.specs.declared.instr.Instr.TheVariants as i
use Rattle.machine_isa.specs.Ticks.{ticks}
use Rattle.machine_semantics.specs.Image.{Image, Process}
use Rattle.machine_semantics.specs.State.{Job, Ready, State, stack_of}
use Rattle.machine_semantics.specs.Effect.{Own, Outcome, Goes, Stuck, effect}
use Rattle.machine_semantics.specs.Tick.{at_next}

-- nobody, nowhere: what an instruction that nobody sees does is the same in every state
abbrev pub nowhere : State
nowhere = record { threads = []; owned = []; shared = []; queues = []; devices = [] }

-- others see it: it enters or leaves, waits, asks or changes a queue, reads or writes a device,
-- raises, or ends
abbrev pub is_silent : Instr → Bool
is_silent (i.Enter m) = false
is_silent (i.Leave m) = false
is_silent (i.Wait c limit e) = false
is_silent (i.Reenter m) = false
is_silent (i.Signal c) = false
is_silent (i.Broadcast c) = false
is_silent (i.Empty c) = false
is_silent (i.In d) = false
is_silent (i.Out d) = false
is_silent (i.Raise e) = false
is_silent i.End = false
is_silent _ = true

-- with the activation at the next instruction
abbrev pub next_own : Own → Own
next_own o = record o { job = at_next o.job }

-- the outcome is not stuck, and within this many words of stack
abbrev pub IsWithin : ℕ → Outcome → Type 0
IsWithin room (Goes o) = stack_of o.job ≤ room
IsWithin room Stuck = ⊥
IsWithin room _ = Unit {0}

-- the process, with nothing to burn, is at the instruction, which has ticks left
pub record IsAt (image : Image) (o : Own) (instr : Instr) : Type 0 where
  pub burnt : o.job.dispatch_ticks ≡ 0
  pub here : slice_get image.code o.job.place ≡ Some instr
  pub early : o.job.done < ticks instr

-- the instruction, in its last tick, leads to what follows, and nobody sees it
pub record GoesTo (image : Image) (o : Own) (instr : Instr) (next : Own) : Type 0 where
  pub at : IsAt image o instr
  pub goes : (s : State) → effect image s instr (next_own o) ≡ Goes next
  pub inside : next.job.inside ≡ o.job.inside
  pub dispatch_ticks : next.job.dispatch_ticks ≡ o.job.dispatch_ticks

-- so many ticks lead from the first to this, and nobody sees it
pub data Leads (image : Image) (first : Own) : ℕ → Own → Type 0 where
  Begins : Leads image first 0 first
  Follows : {n : ℕ} {o : Own} (before : Leads image first n o) (instr : Instr) (next : Own) (step : GoesTo image o instr next) (m : ℕ) (time : m ≡ n + (ticks instr - o.job.done)) → Leads image first m next

-- n ticks on, the process can take the ticks of what it is at, up to the budget
pub record CanGo (image : Image) (room budget n : ℕ) (o : Own) : Type 0 where
  pub instr : Instr
  pub at : IsAt image o instr
  pub safe : n + (ticks instr - o.job.done) ≤ budget → is_silent instr ≡ true → IsWithin room (effect image nowhere instr (next_own o))

-- from the first on, for so many ticks, it can
abbrev pub IsSafeFor : Image → ℕ → Own → ℕ → Type 0
IsSafeFor image room first budget = (n : ℕ) (o : Own) → Leads image first n o → n < budget → CanGo image room budget n o

-- the state with process k so
abbrev pub with_process : ℕ → Own → State → State
with_process k o s = record s { threads = slice_set s.threads k (Ready o.job); owned = slice_set s.owned k o.owned; shared = o.shared }

-- What is proved of rows of instructions that nobody sees, in runs.
use Rattle.std.specs.Prelude.{◌≡◌, ◌<◌, ◌≤◌, ◌+◌, ◌++◌, ℕ, true, false, List, Some, None, slice_get}
use Rattle.machine_isa.specs.declared.instr.Instr.{Instr}
use Rattle.machine_isa.specs.Ticks.{ticks}
use Rattle.base.specs.declared.event.Event.{Event}
use Rattle.machine_semantics.specs.Image.{Image, Process, Script}
use Rattle.machine_semantics.specs.State.{Job, Thread, Idle, Ready, Waiting, State, stack_of}
use Rattle.machine_semantics.specs.Effect.{Own, effect}
use Rattle.machine_semantics.specs.Starts.{starts}
use Rattle.machine_semantics.specs.Tick.{pick, tick, owned_of}
use Rattle.machine_semantics.specs.Run.{state_at, events_from}
use Rattle.vm_stretch.specs.Stretch.{left, pass, place_of}
use Rattle.vm_stretch.specs.StretchLaws.{IsTurn, turn}
use Rattle.vm_stretch.specs.Quiet.{AreQuiet}
use Rattle.vm_stretch.specs.Silent.{nowhere, is_silent, IsSafeFor, Leads, with_process}

-- The law: an instruction that nobody sees does the same in every state.
abbrev pub SilentAnywhere : Type 0
SilentAnywhere = (image : Image) (s : State) (instr : Instr) (o : Own) → is_silent instr ≡ true → effect image s instr o ≡ effect image nowhere instr o

-- the state of the run at tick t, after its start events
abbrev pub begun : Image → Script → ℕ → State
begun image script t = (starts image script t (state_at image script t)).state

-- after the start events of tick t, process k is picked, and stands so; and for the ticks before t
-- + budget nothing more starts
pub record IsPicked (image : Image) (script : Script) (t budget k : ℕ) (first : Own) : Type 0 where
  pub p : Process
  pub process : slice_get image.processes k ≡ Some p
  pub picked : place_of (pick image (begun image script t).threads) ≡ Some k
  pub ready : slice_get (begun image script t).threads k ≡ Some (Ready first.job)
  pub owned : slice_get (begun image script t).owned k ≡ Some first.owned
  pub shared : (begun image script t).shared ≡ first.shared
  pub quiet : AreQuiet image script t budget (begun image script t)

-- The law: where ticks lead it on, and nobody sees it, all else is as it was, and no event falls.
abbrev pub RowStaysInRun : Type 0
RowStaysInRun = (image : Image) (script : Script) (t budget k : ℕ) (first : Own) → IsPicked image script t budget k first
    → (n : ℕ) (o : Own) → Leads image first n o → 0 < n → n ≤ budget → state_at image script (t + n) ≡ with_process k o (begun image script t)

-- The law: nor does any event fall but the start events of the first tick.
abbrev pub RowKeepsEvents : Type 0
RowKeepsEvents = (image : Image) (script : Script) (t budget k : ℕ) (first : Own) → IsPicked image script t budget k first
    → (n : ℕ) (o : Own) → Leads image first n o → 0 < n → n ≤ budget
    → (m : ℕ) → events_from image script (n + m) t (state_at image script t) ≡ (starts image script t (state_at image script t)).events ++ events_from image script m (t + n) (state_at image script (t + n))

-- its words of stack are within those that the process declares
abbrev pub IsInStack : Process → Thread → Type 0
IsInStack p Idle = Unit {0}
IsInStack p (Ready job) = stack_of job ≤ p.stack
IsInStack p (Waiting condition due number job) = stack_of job ≤ p.stack

-- what holds of the run of a valid image: no tick is stuck, stacks are within what is declared, and
-- no instruction has no tick left
pub record IsSafeRun (image : Image) (script : Script) : Type 0 where
  pub unstuck : (u : ℕ) → (tick image script u (state_at image script u)).stuck ≡ false
  pub stack : (u k : ℕ) (p : Process) (th : Thread) → slice_get image.processes k ≡ Some p → slice_get (state_at image script u).threads k ≡ Some th → IsInStack p th
  pub early : (u k : ℕ) (job : Job) (instr : Instr) → slice_get (begun image script u).threads k ≡ Some (Ready job) → slice_get image.code job.place ≡ Some instr → job.done < ticks instr

-- The law: in such a run a process that is picked can take each of its ticks.
abbrev pub RowIsSafe : Type 0
RowIsSafe = (image : Image) (script : Script) (t budget k : ℕ) (first : Own) (is : IsPicked image script t budget k first) → first.job.dispatch_ticks ≡ 0 → IsSafeRun image script → IsSafeFor image is.p.stack first budget

-- The law: where ticks have led it on, up to as many more as are left of what it is at are a turn,
-- whatever they come to: they stay within the instruction, or have its effect.
abbrev pub RowIsTurn : Type 0
RowIsTurn = (image : Image) (script : Script) (t budget k : ℕ) (first : Own) → IsPicked image script t budget k first
    → (n : ℕ) (o : Own) → Leads image first n o → n < budget → (m : ℕ) → 1 ≤ m → m ≤ left image o.job → n + m ≤ budget
    → IsTurn image script (t + n) m (state_at image script (t + n))
    × (turn image script (t + n) m (state_at image script (t + n)) ≡ pass image (t + n) m (with_process k o (begun image script t)) (Some k))

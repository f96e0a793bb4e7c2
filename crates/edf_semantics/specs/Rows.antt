-- Rows of whole instructions that nobody sees, in a run under earliest deadline first.
use Rattle.std.specs.Prelude.{◌≡◌, ◌<◌, ◌≤◌, ◌+◌, ◌++◌, ℕ, false, Some, slice_get}
use Rattle.machine_isa.specs.declared.instr.Instr.{Instr}
use Rattle.machine_isa.specs.Ticks.{ticks}
use Rattle.machine_semantics.specs.Image.{Image, Process, Script}
use Rattle.machine_semantics.specs.State.{Job, Thread, Ready}
use Rattle.machine_semantics.specs.Effect.{Own}
use Rattle.machine_semantics.specs.Tick.{Ticked}
use Rattle.vm_stretch.specs.Stretch.{left, pass}
use Rattle.vm_stretch.specs.Quiet.{AreQuiet}
use Rattle.vm_stretch.specs.RowLaws.{IsInStack}
use Rattle.vm_stretch.specs.Silent.{IsSafeFor, Leads, with_process}
use Rattle.edf_semantics.specs.Run.{begin, events_from, state_at}
use Rattle.edf_semantics.specs.Turn.{IsUnstuck, begun, chosen, marked, started}

-- after the start events of tick t, process k is chosen, and stands so; and for the ticks before t
-- + budget nothing more starts
pub record IsChosen (image : Image) (script : Script) (t budget k : ℕ) (first : Own) : Type 0 where
  pub p : Process
  pub process : slice_get image.processes k ≡ Some p
  pub chosen : chosen image script t ≡ Some k
  pub ready : slice_get (begun image script t).threads k ≡ Some (Ready first.job)
  pub owned : slice_get (begun image script t).owned k ≡ Some first.owned
  pub shared : (begun image script t).shared ≡ first.shared
  pub quiet : AreQuiet image script t budget (begun image script t)

-- where n ticks have led it on to `o`, all else is as it was, but that its activation has begun;
-- and no event fell but the start events of the first tick
pub record HasLed (image : Image) (script : Script) (t k n : ℕ) (o : Own) : Type 0 where
  pub state : state_at image script (t + n) ≡ record { state = with_process k o (begun image script t); marks = begin k (marked image script t) }
  pub events : (m : ℕ) → events_from image script (n + m) t (state_at image script t) ≡ started image script t ++ events_from image script m (t + n) (state_at image script (t + n))

-- The law: in a run of which no tick is stuck, ticks that lead it on and that nobody sees do so.
abbrev pub RowStaysInRun : Type 0
RowStaysInRun = (image : Image) (script : Script) (t budget k : ℕ) (first : Own) → IsUnstuck image script → IsChosen image script t budget k first
    → (n : ℕ) (o : Own) → Leads image first n o → 0 < n → n ≤ budget → HasLed image script t k n o

-- no tick is stuck, stacks are within what is declared, and no instruction has no tick left
pub record IsSafeRun (image : Image) (script : Script) : Type 0 where
  pub unstuck : IsUnstuck image script
  pub stack : (u k : ℕ) (p : Process) (th : Thread) → slice_get image.processes k ≡ Some p → slice_get (state_at image script u).state.threads k ≡ Some th → IsInStack p th
  pub early : (u k : ℕ) (job : Job) (instr : Instr) → slice_get (begun image script u).threads k ≡ Some (Ready job) → slice_get image.code job.place ≡ Some instr → job.done < ticks instr

-- The law: in such a run a process that is chosen can take each of its ticks.
abbrev pub RowIsSafe : Type 0
RowIsSafe = (image : Image) (script : Script) (t budget k : ℕ) (first : Own) (is : IsChosen image script t budget k first) → first.job.dispatch_ticks ≡ 0 → IsSafeRun image script → IsSafeFor image is.p.stack first budget

-- m ticks from tick t + n on, to which n ticks have led it on, come to this at once
pub record IsRowTaken (image : Image) (script : Script) (t k n m : ℕ) (all : Ticked) : Type 0 where
  pub free : all.stuck ≡ false
  pub state : state_at image script (t + (n + m)) ≡ record { state = all.state; marks = begin k (marked image script t) }
  pub events : (l : ℕ) → events_from image script (n + m + l) t (state_at image script t) ≡ (started image script t ++ all.events) ++ events_from image script l (t + (n + m)) (state_at image script (t + (n + m)))

-- The law: where ticks have led it on, up to as many more as are left of what it is at come to what
-- they do at once, whatever that is: they stay within the instruction, or have its effect.
abbrev pub RowIsTaken : Type 0
RowIsTaken = (image : Image) (script : Script) (t budget k : ℕ) (first : Own) → IsUnstuck image script → IsChosen image script t budget k first
    → (n : ℕ) (o : Own) → Leads image first n o → n < budget → (m : ℕ) → 1 ≤ m → m ≤ left image o.job → n + m ≤ budget → IsRowTaken image script t k n m (pass image (t + n) m (with_process k o (begun image script t)) (Some k))

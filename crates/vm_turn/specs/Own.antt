-- What a turn comes to for the process that has it.
use Rattle.std.specs.Prelude.{◌≡◌, ◌≤◌, ◌<◌, ℕ, ℤ, List, Some, slice_get}
use Rattle.machine_isa.specs.declared.instr.Instr.{Instr}
use Rattle.machine_isa.specs.Ticks.{ticks}
use Rattle.machine_semantics.specs.Image.{Image}
use Rattle.machine_semantics.specs.State.{Job, State, stack_of}
use Rattle.machine_semantics.specs.Effect.{Own, Outcome, Goes, Does, Signals, Broadcasts, Waits, Raises, Ends, Stuck}
use Rattle.vm_instructions.specs.Silent.{RaisesAs}
use Rattle.vm_turn.specs.declared.outcome.Outcome.{Outcome as Come}
use Rattle.vm_turn.specs.declared.outcome.Outcome.TheVariants as come

-- what a process finds around it: the image and the state, and its words and those of all monitors
pub record Around : Type 0 where
  pub image : Image
  pub state : State
  pub owned : List ℤ
  pub shared : List ℤ

-- the outcome is not stuck, and leaves the activation within so many words of stack
abbrev pub CanCome : ℕ → Outcome → Type 0
CanCome room (Goes o) = stack_of o.job ≤ room
CanCome room (Does act o) = stack_of o.job ≤ room
CanCome room Stuck = ⊥
CanCome room _ = Unit {0}

-- The outcome is the one that code tells, with what it left of the process's own. After a raise and
-- at an end no word has changed, and the process raises as it might have before.
abbrev pub ComesAs : Outcome → Own → Come → Own → Type 0
ComesAs out old come.Goes new = out ≡ Goes new
ComesAs out old (come.Does act) new = out ≡ Does act new
ComesAs out old (come.Signals c) new = out ≡ Signals c new
ComesAs out old (come.Broadcasts c) new = out ≡ Broadcasts c new
ComesAs out old (come.Waits w) new = out ≡ Waits w.condition w.limit w.number new
ComesAs out old (come.Raises number) new = (out ≡ Raises number) × RaisesAs old new
ComesAs out old come.Ends new = (out ≡ Ends) × (new.owned ≡ old.owned) × (new.shared ≡ old.shared)

-- its condition is one of so many
abbrev pub IsAmong : ℕ → Come → Type 0
IsAmong n (come.Signals c) = c < n
IsAmong n (come.Broadcasts c) = c < n
IsAmong n (come.Waits w) = w.condition < n
IsAmong n _ = Unit {0}

-- fewer ticks of its instruction have passed than it has
abbrev pub IsEarly : Image → Job → Type 0
IsEarly image job = (instr : Instr) → slice_get image.code job.place ≡ Some instr → job.done < ticks instr

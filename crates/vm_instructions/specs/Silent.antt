-- An instruction that nobody sees, in code.
use Rattle.std.specs.Prelude.{◌≡◌, ◌≤◌, ◌*◌, ℕ, ℤ, true, false, List, Some, slice_get}
use Rattle.machine_isa.specs.declared.instr.Instr.{Instr}
use Rattle.machine_semantics.specs.Image.{Image, Process, Routine, end_of}
use Rattle.machine_semantics.specs.State.{Job, State}
use Rattle.machine_semantics.specs.Effect.{Own, Goes, Raises, effect}
use Rattle.machine_semantics.specs.Starts.{raised, released}
use Rattle.vm_instructions.specs.declared.calls.RoutineHeader.{RoutineHeader as Called}
use Rattle.vm_instructions.specs.declared.step_result.StepResult.{StepResult}
use Rattle.vm_instructions.specs.declared.step_result.StepResult.TheVariants as came
use Rattle.vm_stretch.specs.Silent.{IsWithin, is_silent, nowhere}
use Rattle.vm_instructions.specs.declared.activation.Activation.{Activation as Kept}
use Rattle.vm_instructions.specs.declared.activation.Ends.{Ends}

-- the activation as the machine's meaning has it
abbrev pub job_of : Kept → Job
job_of j = record { place = j.place; done = j.done; dispatch_ticks = j.dispatch_ticks; locals = j.frames.locals; operands = j.frames.operands; callers = j.frames.callers; handling = j.handling; inside = j.inside }

-- the activation with the words of its process and those of all monitors
abbrev pub own_of : Kept → List ℤ → List ℤ → Own
own_of j owned shared = record { job = job_of j; owned = owned; shared = shared }

-- what code needs to know of a routine is what the image has
pub record IsCalled (whole : Routine) (r : Called) : Type 0 where
  pub params : whole.params ≡ r.params
  pub locals : whole.locals ≡ r.locals
  pub start : whole.start ≡ r.start
  pub order : r.params ≤ r.locals

-- the image has this code and these routines
pub record IsOf (image : Image) (code : List Instr) (routines : List Called) : Type 0 where
  pub code_is : image.code ≡ code
  pub routine_is : (n : ℕ) (whole : Routine) → slice_get image.routines n ≡ Some whole → (r : Called) × (slice_get routines n ≡ Some r) × IsCalled whole r

-- where nobody sees the instruction, its outcome is not stuck, and within this room
abbrev pub IsSafe : Image → Instr → Own → ℕ → Type 0
IsSafe image instr o room = is_silent instr ≡ true → IsWithin room (effect image nowhere instr o)

-- the process may raise as it might have before
abbrev pub RaisesAs : Own → Own → Type 0
RaisesAs old new = ((p : Process) (e : ℕ) → raised p e new.job ≡ raised p e old.job) × (new.owned ≡ old.owned) × (new.shared ≡ old.shared)

-- the instruction is done, or was not touched
abbrev pub HasDone : Image → Instr → Own → StepResult → Own → Type 0
HasDone image instr old came.Done new = (s : State) → effect image s instr old ≡ Goes new
HasDone image instr old (came.Raises n) new = ((s : State) → effect image s instr old ≡ Raises n) × RaisesAs old new
HasDone image instr old came.Seen new = (new ≡ old) × (is_silent instr ≡ false)

-- the activation is that of a release
abbrev pub IsReleased : ℕ → ℕ → ℕ → Kept → Type 0
IsReleased start locals dispatch_ticks new = (image : Image) (p : Process) → p.start ≡ start → p.locals ≡ locals → 2 * image.over ≡ dispatch_ticks → job_of new ≡ released image p

-- the activation is that after a raise
abbrev pub IsRaised : List ℕ → ℕ → Ends → Kept → Kept → Type 0
IsRaised numbers number ends old new = (p : Process) → p.numbers ≡ numbers → p.handler ≡ ends.handler → end_of p false ≡ ends.body → end_of p true ≡ ends.handled → job_of new ≡ raised p number (job_of old)

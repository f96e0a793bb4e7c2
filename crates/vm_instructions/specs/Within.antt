-- What an instruction comes to in the frame in which it stands.
use Rattle.std.specs.Prelude.{◌≡◌, ◌≤◌, ◌-◌, ℕ, ℤ, List, true, false}
use Rattle.machine_isa.specs.declared.instr.Instr.{Instr}
use Rattle.machine_isa.specs.declared.instr.Instr.TheVariants as i
use Rattle.machine_semantics.specs.Image.{Image}
use Rattle.machine_semantics.specs.State.{Job, State}
use Rattle.machine_semantics.specs.Effect.{Own, Goes, Raises, effect}
use Rattle.vm_instructions.specs.declared.within.Within.{Within}
use Rattle.vm_instructions.specs.declared.within.Within.TheVariants as within
use Rattle.vm_instructions.specs.Silent.{IsOf, IsSafe, RaisesAs, job_of, own_of}
use Rattle.vm_instructions.specs.declared.activation.Activation.{Activation as Kept}
use Rattle.vm_instructions.specs.declared.calls.RoutineHeader.{RoutineHeader as Called}
use Rattle.vm_instructions.specs.Rows.{Ended, Spends}
use Rattle.vm_stretch.specs.Silent.{is_silent, next_own}

-- in whose frame: the image, the activation with its callers, and the words of its stack
pub record InFrame : Type 0 where
  pub image : Image
  pub job : Job
  pub room : ℕ

-- it is the activation's innermost
pub record IsInnermost (f : InFrame) (job : Kept) : Type 0 where
  pub job_is : f.job ≡ job_of job
  pub room_is : f.room ≡ job.frames.room

-- what goes beyond a frame: an instruction, and how the process stood before it
pub record Beyond : Type 0 where
  pub image : Image
  pub code : List Instr
  pub instr : Instr
  pub old : Own

-- nobody sees the instruction and it is done, or it raises, or goes beyond the frame and was not
-- touched
abbrev pub HasDoneWithin : Image → Instr → Own → Within → Own → Type 0
HasDoneWithin image instr old within.Done new = (is_silent instr ≡ true) × ((s : State) → effect image s instr old ≡ Goes new)
HasDoneWithin image instr old (within.Raises n) new = ((s : State) → effect image s instr old ≡ Raises n) × RaisesAs old new
HasDoneWithin image instr old within.Seen new = (new ≡ old) × (is_silent instr ≡ false)
HasDoneWithin image instr old (within.Calls number) new = (new ≡ old) × (instr ≡ i.Call number)
HasDoneWithin image instr old within.Returns new = (new ≡ old) × (instr ≡ i.Return)
HasDoneWithin image instr old within.ReturnsValue new = (new ≡ old) × (instr ≡ i.ReturnValue)

-- how many operands are left: an exception drops them
abbrev pub operands_left : Within → ℕ → ℕ
operands_left (within.Raises n) top = 0
operands_left _ top = top

-- all ticks passed; or the last instruction whose ticks passed raises, or goes beyond the frame and
-- is still to be done
abbrev pub GoesWithin : Image → Own → ℕ → Within → ℕ → Own → Type 0
GoesWithin image first budget within.Done left new = Spends image first budget new
GoesWithin image first budget came left new =
    (last : Own) × (instr : Instr) × (left ≤ budget) × Ended image first (budget - left) last instr × HasDoneWithin image instr (next_own last) came new

-- the process has gone so far, which may go beyond its frame: the instruction can, and was done
-- within the frame as far as it is
pub record IsBeyond (b : Beyond) (routines : List Called) (job : Kept) (owned shared : List ℤ) (came : Within) : Type 0 where
  pub of : IsOf b.image b.code routines
  pub safe : IsSafe b.image b.instr b.old job.frames.room
  pub so_far : HasDoneWithin b.image b.instr b.old came (own_of job owned shared)

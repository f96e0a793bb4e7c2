-- What the code of an instruction has done.
use Rattle.std.specs.Prelude.{◌≡◌, ◌<◌, ◌&&◌, ◌+ℤ◌, ◌-ℤ◌, ◌≤ℤ◌, ◌<ℤ◌, ℕ, zero, suc, ℤ, pos, negsuc, Bool, true, false, List, ◌∷◌, Option, Some, None, Result, Ok, Err, length, int_le, int_lt}
use Rattle.machine_isa.specs.declared.instr.Instr.{Instr}
use Rattle.machine_isa.specs.declared.instr.Instr.TheVariants as i
use Rattle.machine_semantics.specs.Image.{Image, Routine}
use Rattle.vm_instructions.specs.declared.calls.RoutineHeader.{RoutineHeader as Called}
use Rattle.machine_semantics.specs.State.{Operand, Value, Counter, State}
use Rattle.base.specs.Words.{is_zero}
use Rattle.machine_semantics.specs.Effect.{Own, Outcome, Goes, Raises, Stuck, effect, holding, is_reached, routine}
use Rattle.vm_instructions.specs.Frames.{Frames, IsCounterFirst}
use Rattle.vm_instructions.specs.declared.step_result.StepResult.{StepResult}
use Rattle.vm_instructions.specs.declared.step_result.StepResult.TheVariants as came
use Rattle.vm_instructions.specs.declared.within.Within.{Within}
use Rattle.vm_instructions.specs.declared.within.Within.TheVariants as within

-- with these frames
abbrev pub with_frames : Frames → Own → Own
with_frames f o = record o { job = record (o.job) { locals = f.locals; operands = f.operands; callers = f.callers } }

-- the outcome that leaves this
abbrev pub comes_to : StepResult → Own → Outcome
comes_to came.Done o = Goes o
comes_to (came.Raises number) o = Raises number
comes_to came.Seen o = Stuck

-- the outcome that leaves this, within a frame
abbrev pub leaves : Within → Own → Outcome
leaves within.Done o = Goes o
leaves (within.Raises number) o = Raises number
leaves _ o = Stuck

-- the effect of the instruction on these operands, whatever else the process has, is this
abbrev pub Does : Instr → List Operand → Within → List Operand → Type 0
Does instr old result new = (image : Image) (s : State) (o : Own) → effect image s instr (holding old o) ≡ leaves result (holding new o)

-- it is done, or an exception is raised
abbrev pub Acts : Within → Type 0
Acts within.Done = Unit {0}
Acts (within.Raises n) = Unit {0}
Acts _ = ⊥

-- what the instruction keeps of the frames where it raises; and what the stack has room for
abbrev pub Keeps : StepResult → Frames → Frames → Type 0
Keeps came.Done old new = new.room ≡ old.room
Keeps (came.Raises n) old new = (new.room ≡ old.room) × (new.locals ≡ old.locals) × (new.callers ≡ old.callers)
Keeps came.Seen old new = ⊥

-- no word is changed where the instruction raises
abbrev pub KeepsWords : Within → List ℤ → List ℤ → Type 0
KeepsWords (within.Raises n) old new = new ≡ old
KeepsWords _ old new = Unit {0}

-- the number is given, or the exception raised
abbrev pub Answers : Result ℤ ℕ → List Operand → Within → List Operand → Type 0
Answers (Ok z) old result new = (result ≡ within.Done) × (new ≡ Value z ∷ old)
Answers (Err n) old result new = (result ≡ within.Raises n) × (new ≡ old)

-- there is a word with this number
abbrev pub HasWord : List ℤ → ℤ → Type 0
HasWord words (pos n) = n < length words
HasWord words (negsuc n) = ⊥

-- with these words of the process
abbrev pub with_owned : List ℤ → Own → Own
with_owned words o = record o { owned = words }

-- with these words of the monitors
abbrev pub with_shared : List ℤ → Own → Own
with_shared words o = record o { shared = words }

-- with these locals
abbrev pub with_locals : List ℤ → Own → Own
with_locals words o = record o { job = record (o.job) { locals = words } }

-- the effect on these operands and these locals
abbrev pub DoesLocal : Instr → List Operand → List ℤ → Within → List Operand → List ℤ → Type 0
DoesLocal instr old words result new words_new =
    (image : Image) (s : State) (o : Own) → effect image s instr (with_locals words (holding old o)) ≡ leaves result (with_locals words_new (holding new o))

-- the effect on these operands and these words of the process
abbrev pub DoesOwned : Instr → List Operand → List ℤ → Within → List Operand → List ℤ → Type 0
DoesOwned instr old words result new words_new =
    (image : Image) (s : State) (o : Own) → effect image s instr (with_owned words (holding old o)) ≡ leaves result (with_owned words_new (holding new o))

-- the effect on these operands and these words of monitors, where the process is inside the monitor
-- of the word
abbrev pub DoesShared : ℤ → Instr → List Operand → List ℤ → Within → List Operand → List ℤ → Type 0
DoesShared w instr old words result new words_new =
    (image : Image) (s : State) (o : Own) → is_reached image o.job.inside w ≡ true → effect image s instr (with_shared words (holding old o)) ≡ leaves result (with_shared words_new (holding new o))

-- the index is inside
abbrev pub is_inside_array : ℤ → ℤ → ℤ → Bool
is_inside_array low len index = int_le (pos 0) (index -ℤ low) && int_lt (index -ℤ low) len

-- how far the index is from the first, where it is inside
abbrev pub IsOffset : ℤ → ℤ → ℤ → Option ℤ → Type 0
IsOffset low len index (Some k) = (is_inside_array low len index ≡ true) × (k ≡ index -ℤ low) × (pos 0 ≤ℤ k) × (k <ℤ pos 4294967296)
IsOffset low len index None = is_inside_array low len index ≡ false

-- the word of the element, where the index is inside
abbrev pub IsElement : ℤ → ℤ → ℤ → ℤ → Option ℕ → Type 0
IsElement w low len index (Some at) = (is_inside_array low len index ≡ true) × (w +ℤ (index -ℤ low) ≡ pos at)
IsElement w low len index None = is_inside_array low len index ≡ false

-- the word of the element has a number that is not negative, if the index is inside
abbrev pub ReachesPlace : ℤ → ℤ → ℤ → ℤ → Type 0
ReachesPlace w low len index = is_inside_array low len index ≡ true → pos 0 ≤ℤ (w +ℤ (index -ℤ low))

-- the element with this index is there, if the index is inside
abbrev pub Reaches : List ℤ → ℤ → ℤ → ℤ → ℤ → Type 0
Reaches words w low len index = is_inside_array low len index ≡ true → HasWord words (w +ℤ (index -ℤ low))

-- the last operand is such an index
abbrev pub ReachesLast : List ℤ → ℤ → ℤ → ℤ → List Operand → Type 0
ReachesLast words w low len (Value x ∷ rest) = Reaches words w low len x
ReachesLast words w low len _ = ⊥

-- the first of the last two is
abbrev pub ReachesFirst : List ℤ → ℤ → ℤ → ℤ → List Operand → Type 0
ReachesFirst words w low len (Value y ∷ Value x ∷ rest) = Reaches words w low len x
ReachesFirst words w low len _ = ⊥

-- at this place
abbrev pub at_place : ℕ → Own → Own
at_place place o = record o { job = record (o.job) { place = place } }

-- the effect on these frames at this place
abbrev pub DoesAt : Instr → Frames → ℕ → StepResult → Frames → ℕ → Type 0
DoesAt instr old place result new place_new =
    (image : Image) (s : State) (o : Own) → effect image s instr (at_place place (with_frames old o)) ≡ comes_to result (at_place place_new (with_frames new o))

-- the number is not negative
abbrev pub IsPlace : ℤ → Type 0
IsPlace (pos t) = Unit {0}
IsPlace (negsuc n) = ⊥

-- where the last operand is 0, this is a place
abbrev pub JumpsOn : ℤ → List Operand → Type 0
JumpsOn to (Value x ∷ rest) = is_zero x ≡ true → IsPlace to
JumpsOn to _ = ⊥

-- the last operand is a counter with a turn left, and where there is another after it, this is a
-- place
abbrev pub Counts : ℤ → List Operand → Type 0
Counts to (Counter (suc (suc n)) ∷ rest) = IsPlace to
Counts to (Counter (suc zero) ∷ rest) = Unit {0}
Counts to _ = ⊥

-- the last operand is a value, and where it is not 0, a counter is before it, and this is a place
abbrev pub Exits : ℤ → List Operand → Type 0
Exits to (Value x ∷ rest) = is_zero x ≡ false → IsPlace to × IsCounterFirst rest
Exits to _ = ⊥

-- there is a routine with this number
abbrev pub HasRoutine : List Called → ℤ → Type 0
HasRoutine routines (pos n) = n < length routines
HasRoutine routines (negsuc n) = ⊥

-- the image's routine with this number is the one that code knows so
pub record IsRoutine (image : Image) (number : ℤ) (r : Called) : Type 0 where
  pub whole : Routine
  pub there : routine image number ≡ Some whole
  pub params : whole.params ≡ r.params
  pub locals : whole.locals ≡ r.locals
  pub start : whole.start ≡ r.start

-- the effect of a call of the routine on these frames at this place
abbrev pub DoesCall : ℤ → Called → Frames → ℕ → StepResult → Frames → ℕ → Type 0
DoesCall number r old place result new place_new =
    (image : Image) (s : State) (o : Own) → IsRoutine image number r → effect image s (i.Call number) (at_place place (with_frames old o)) ≡ comes_to result (at_place place_new (with_frames new o))

-- the process is inside the monitor of the element with this index, if the index is inside
abbrev pub ReachesMon : Image → Option ℕ → ℤ → ℤ → ℤ → ℤ → Type 0
ReachesMon image inside w low len x = is_inside_array low len x ≡ true → is_reached image inside (w +ℤ (x -ℤ low)) ≡ true

-- the last operand is such an index
abbrev pub ReachesMonLast : Image → Option ℕ → ℤ → ℤ → ℤ → List Operand → Type 0
ReachesMonLast image inside w low len (Value x ∷ rest) = ReachesMon image inside w low len x
ReachesMonLast image inside w low len _ = ⊥

-- the first of the last two is
abbrev pub ReachesMonFirst : Image → Option ℕ → ℤ → ℤ → ℤ → List Operand → Type 0
ReachesMonFirst image inside w low len (Value y ∷ Value x ∷ rest) = ReachesMon image inside w low len x
ReachesMonFirst image inside w low len _ = ⊥

-- the effect on these operands and these words of monitors, where the process is inside the monitor
-- of the element
abbrev pub LoadsShared : ℤ → ℤ → ℤ → List Operand → List ℤ → Within → List Operand → Type 0
LoadsShared w low len old words result new =
    (image : Image) (s : State) (o : Own) → ReachesMonLast image o.job.inside w low len old → effect image s (i.LoadMonAt w low len) (with_shared words (holding old o)) ≡ leaves result (with_shared words (holding new o))

abbrev pub StoresShared : ℤ → ℤ → ℤ → List Operand → List ℤ → Within → List Operand → List ℤ → Type 0
StoresShared w low len old words result new words_new =
    (image : Image) (s : State) (o : Own) → ReachesMonFirst image o.job.inside w low len old → effect image s (i.StoreMonAt w low len) (with_shared words (holding old o)) ≡ leaves result (with_shared words_new (holding new o))

-- the effect on these operands at this place
abbrev pub DoesTo : Instr → List Operand → ℕ → Within → List Operand → ℕ → Type 0
DoesTo instr old place result new place_new =
    (image : Image) (s : State) (o : Own) → effect image s instr (at_place place (holding old o)) ≡ leaves result (at_place place_new (holding new o))

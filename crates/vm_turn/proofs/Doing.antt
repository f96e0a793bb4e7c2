-- The ticks of a process, as far as its own goes.
use Rattle.std.proofs.Common.{◌≡◌, ℕ, true, List, refl, sym, subst}
use Rattle.std.specs.Prelude.{ℤ}
use Rattle.machine_isa.specs.declared.instr.Instr.{Instr}
use Rattle.machine_semantics.specs.Image.{Image}
use Rattle.machine_semantics.specs.State.{State}
use Rattle.machine_semantics.specs.Effect.{Own, Outcome, Goes, Does, Signals, Broadcasts, Waits, Raises, Ends, Stuck, effect}
use Rattle.vm_instructions.specs.declared.calls.RoutineHeader.{RoutineHeader as Called}
use Rattle.vm_instructions.specs.declared.activation.Activation.{Activation as Kept}
use Rattle.vm_instructions.specs.Silent.{own_of, IsOf as HasCode}
use Rattle.vm_stretch.specs.Silent.{IsWithin, is_silent, nowhere}
use Rattle.vm_stretch.proofs.Rowing.{silent_anywhere}
use Rattle.vm_state.specs.declared.decoded_image.DecodedImage.{DecodedImage}
use Rattle.vm_state.specs.Plan.{IsOf}
use Rattle.vm_turn.specs.Own.{CanCome}

-- ---- one instruction

within : (room : ℕ) (out : Outcome) → CanCome room out → IsWithin room out
within room (Goes o) can = can
within room (Does a o) can = tt
within room (Signals c o) can = tt
within room (Broadcasts c o) can = tt
within room (Waits c limit e o) can = tt
within room (Raises e) can = tt
within room Ends can = tt
within room Stuck can = can

own_same : (job : Kept) (owned shared owned' shared' : List ℤ) → owned ≡ owned' → shared ≡ shared' → own_of job owned shared ≡ own_of job owned' shared'
own_same job owned shared owned' shared' a b = rw (a, b) refl

pub safe_of : (image : Image) (s : State) (instr : Instr) (job : Kept) (owned shared owned' shared' : List ℤ) → owned ≡ owned' → shared ≡ shared' → CanCome job.frames.room (effect image s instr (own_of job owned shared))
    → is_silent instr ≡ true → IsWithin job.frames.room (effect image nowhere instr (own_of job owned' shared'))
safe_of image s instr job owned shared owned' shared' a b can silent =
    subst (λ (o : Own). IsWithin job.frames.room (effect image nowhere instr o)) (own_same job owned shared owned' shared' a b)
    (subst (λ (out : Outcome). IsWithin job.frames.room out) (silent_anywhere image s instr (own_of job owned shared) silent) (within job.frames.room (effect image s instr (own_of job owned shared)) can))

pub code_of : (image : Image) (plan : DecodedImage) (code : List Instr) (routines : List Called) → IsOf image plan → code ≡ plan.code.items → routines ≡ plan.routines.items → HasCode image code routines
code_of image plan code routines is a b = subst (λ (c : List Instr). HasCode image c routines) (sym a) (subst (λ (r : List Called). HasCode image plan.code.items r) (sym b) is.code)

-- The stack takes no more words than it has.
use Rattle.std.proofs.Common.{◌≡◌, ◌≢◌, ◌≤◌, ◌+◌, ℕ, List, length, reverse, take, arith, refl, ap, sym, subst, ◌∙◌}
use Rattle.std.specs.Prelude.{ℤ}
use Rattle.std.proofs.lemmas.List.{length-take, length-map, length-reverse}
use Rattle.machine_isa.specs.declared.instr.Instr.{Instr}
use Rattle.machine_semantics.specs.Image.{Image}
use Rattle.machine_semantics.specs.State.{Job, stack_below}
use Rattle.machine_semantics.specs.Effect.{Own, Outcome, Goes, effect}
use Rattle.vm_instructions.specs.declared.cursor.Cursor.{Cursor}
use Rattle.vm_instructions.specs.declared.operand.Operand.{Operand as Kept}
use Rattle.vm_instructions.specs.declared.within.Within.{Within}
use Rattle.vm_instructions.specs.declared.within.Within.TheVariants as within
use Rattle.vm_instructions.specs.Frames.{operand_of}
use Rattle.vm_instructions.specs.Silent.{IsSafe}
use Rattle.vm_instructions.specs.Stack.{IsWithinRoom, own_in, stacked}
use Rattle.vm_instructions.specs.Within.{GoesWithin, HasDoneWithin, operands_left}
use Rattle.vm_stretch.specs.Silent.{IsWithin, nowhere}

pub length-stacked : (top : ℕ) (stack : List Kept) → top ≤ length stack → length (stacked top stack) ≡ top
length-stacked top stack fits = omega (arith, fits, length-map (reverse (take top stack)) operand_of, length-reverse (take top stack), length-take top stack)

-- after an instruction that is done
pub room_after : (room : ℕ) (came : Outcome) (j : Job) (at : Cursor) (stack : List Kept) (locals owned shared : List ℤ) → IsWithin room came → came ≡ Goes (own_in j at stack locals owned shared) → at.top ≤ length stack → IsWithinRoom room j at.top locals
room_after room came j at stack locals owned shared safe is fits =
    let h : length locals + length (stacked at.top stack) + stack_below j.callers ≤ room = subst (λ (x : Outcome). IsWithin room x) is safe in
    omega (arith, h, length-stacked at.top stack fits)

-- what was not touched has the operands that it had
same_top : (old : Own) (was : ℕ) (j : Job) (at : Cursor) (stack : List Kept) (locals owned shared : List ℤ) → own_in j at stack locals owned shared ≡ old → length old.job.operands ≡ was → at.top ≤ length stack → at.top ≡ was
same_top old was j at stack locals owned shared same long fits =
    sym (length-stacked at.top stack fits) ∙ ap (λ (o : Own). length o.job.operands) same ∙ long

-- after one that goes beyond its frame, or raises
pub room_beyond : (image : Image) (instr : Instr) (old : Own) (came : Within) (room was : ℕ) (j : Job) (at : Cursor) (stack : List Kept) (locals owned shared : List ℤ) → came ≢ within.Done → HasDoneWithin image instr old came (own_in j at stack locals owned shared) → length old.job.operands ≡ was
    → length locals + was + stack_below j.callers ≤ room → at.top ≤ length stack → IsWithinRoom room j (operands_left came at.top) locals
room_beyond image instr old within.Done room was j at stack locals owned shared other done long less fits = absurd (other refl)
room_beyond image instr old (within.Raises n) room was j at stack locals owned shared other done long less fits = omega (arith, less)
room_beyond image instr old within.Seen room was j at stack locals owned shared other done long less fits = omega (arith, less, same_top old was j at stack locals owned shared done.0 long fits)
room_beyond image instr old (within.Calls n) room was j at stack locals owned shared other done long less fits = omega (arith, less, same_top old was j at stack locals owned shared done.0 long fits)
room_beyond image instr old within.Returns room was j at stack locals owned shared other done long less fits = omega (arith, less, same_top old was j at stack locals owned shared done.0 long fits)
room_beyond image instr old within.ReturnsValue room was j at stack locals owned shared other done long less fits = omega (arith, less, same_top old was j at stack locals owned shared done.0 long fits)

-- after any
pub room_still : (image : Image) (instr : Instr) (old : Own) (came : Within) (room was : ℕ) (j : Job) (at : Cursor) (stack : List Kept) (locals owned shared : List ℤ) → IsSafe image instr old room → HasDoneWithin image instr old came (own_in j at stack locals owned shared) → length old.job.operands ≡ was
    → length locals + was + stack_below j.callers ≤ room → at.top ≤ length stack → IsWithinRoom room j (operands_left came at.top) locals
room_still image instr old within.Done room was j at stack locals owned shared safe done long less fits = room_after room (effect image nowhere instr old) j at stack locals owned shared (safe done.0) (done.1 nowhere) fits
room_still image instr old (within.Raises n) room was j at stack locals owned shared safe done long less fits = room_beyond image instr old (within.Raises n) room was j at stack locals owned shared (λ is. absurd cc) done long less fits
room_still image instr old within.Seen room was j at stack locals owned shared safe done long less fits = room_beyond image instr old within.Seen room was j at stack locals owned shared (λ is. absurd cc) done long less fits
room_still image instr old (within.Calls n) room was j at stack locals owned shared safe done long less fits = room_beyond image instr old (within.Calls n) room was j at stack locals owned shared (λ is. absurd cc) done long less fits
room_still image instr old within.Returns room was j at stack locals owned shared safe done long less fits = room_beyond image instr old within.Returns room was j at stack locals owned shared (λ is. absurd cc) done long less fits
room_still image instr old within.ReturnsValue room was j at stack locals owned shared safe done long less fits = room_beyond image instr old within.ReturnsValue room was j at stack locals owned shared (λ is. absurd cc) done long less fits

-- an exception drops the operands
pub left_within : (image : Image) (instr : Instr) (old : Own) (came : Within) (j : Job) (at : Cursor) (stack : List Kept) (locals owned shared : List ℤ) → HasDoneWithin image instr old came (own_in j at stack locals owned shared)
    → HasDoneWithin image instr old came (own_in j (record at { top = operands_left came at.top }) stack locals owned shared)
left_within image instr old within.Done j at stack locals owned shared done = done
left_within image instr old (within.Raises n) j at stack locals owned shared done = (done.0, ((λ p e. done.1.0 p e), done.1.1, done.1.2))
left_within image instr old within.Seen j at stack locals owned shared done = done
left_within image instr old (within.Calls n) j at stack locals owned shared done = done
left_within image instr old within.Returns j at stack locals owned shared done = done
left_within image instr old within.ReturnsValue j at stack locals owned shared done = done

pub left_row : (image : Image) (first : Own) (budget : ℕ) (came : Within) (left : ℕ) (j : Job) (at : Cursor) (stack : List Kept) (locals owned shared : List ℤ) → GoesWithin image first budget came left (own_in j at stack locals owned shared)
    → GoesWithin image first budget came left (own_in j (record at { top = operands_left came at.top }) stack locals owned shared)
left_row image first budget within.Done left j at stack locals owned shared goes = goes
left_row image first budget (within.Raises n) left j at stack locals owned shared (last, instr, less, ended, done) = (last, instr, less, ended, (done.0, ((λ p e. done.1.0 p e), done.1.1, done.1.2)))
left_row image first budget within.Seen left j at stack locals owned shared goes = goes
left_row image first budget (within.Calls n) left j at stack locals owned shared goes = goes
left_row image first budget within.Returns left j at stack locals owned shared goes = goes
left_row image first budget within.ReturnsValue left j at stack locals owned shared goes = goes

pub left_less : (came : Within) (top : ℕ) → operands_left came top ≤ top
left_less within.Done top = omega arith
left_less (within.Raises n) top = omega arith
left_less within.Seen top = omega arith
left_less (within.Calls n) top = omega arith
left_less within.Returns top = omega arith
left_less within.ReturnsValue top = omega arith

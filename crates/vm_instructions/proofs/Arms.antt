-- What an instruction does to the parts of a process, and to the process.
use Rattle.std.proofs.Common.{◌≡◌, ℕ, List, refl, sym, subst}
use Rattle.std.specs.Prelude.{ℤ, true}
use Rattle.machine_isa.specs.declared.instr.Instr.{Instr}
use Rattle.machine_semantics.specs.Image.{Image}
use Rattle.machine_semantics.specs.State.{Job, State}
use Rattle.machine_semantics.specs.Effect.{Own, effect}
use Rattle.vm_instructions.specs.Frames.{Frames}
use Rattle.vm_instructions.specs.declared.step_result.StepResult.{StepResult}
use Rattle.vm_instructions.specs.declared.step_result.StepResult.TheVariants as came
use Rattle.vm_instructions.specs.Steps.{Acts, Does, DoesLocal, DoesOwned, DoesTo, Keeps, KeepsWords, comes_to, leaves}
use Rattle.vm_instructions.specs.Stack.{own_in, stacked}
use Rattle.vm_instructions.specs.Within.{HasDoneWithin}
use Rattle.vm_instructions.specs.declared.cursor.Cursor.{Cursor}
use Rattle.vm_instructions.specs.declared.operand.Operand.{Operand as Row}
use Rattle.vm_instructions.specs.declared.within.Within.{Within}
use Rattle.vm_instructions.specs.declared.within.Within.TheVariants as within
use Rattle.vm_instructions.specs.declared.activation.Activation.{Activation as Kept}
use Rattle.vm_instructions.specs.Silent.{HasDone, IsSafe, RaisesAs, own_of}
use Rattle.vm_stretch.specs.Silent.{is_silent}

-- after a raise nothing tells which frames of these two the process had
same_raise : (job : Kept) (place : ℕ) (owned shared owned' shared' : List ℤ) (g : Frames) → g.locals ≡ job.frames.locals → g.callers ≡ job.frames.callers → owned' ≡ owned → shared' ≡ shared
    → RaisesAs (own_of job owned shared) (own_of (record job { place = place; frames = g }) owned' shared')
same_raise job place owned shared owned' shared' g locals callers same same' = ((λ p e. rw (locals, callers) refl), same, same')

-- the process has done what its frames have
pub placed_done : (image : Image) (instr : Instr) (job : Kept) (place : ℕ) (owned shared : List ℤ) (g : Frames) (r : StepResult)
    → ((s : State) → effect image s instr (own_of job owned shared) ≡ comes_to r (own_of (record job { place = place; frames = g }) owned shared)) → Keeps r job.frames g
    → HasDone image instr (own_of job owned shared) r (own_of (record job { place = place; frames = g }) owned shared)
placed_done image instr job place owned shared g came.Done does keeps = does
placed_done image instr job place owned shared g (came.Raises n) does keeps = (does, same_raise job place owned shared owned shared g keeps.1 keeps.2 refl refl)
placed_done image instr job place owned shared g came.Seen does keeps = absurd keeps

-- ---- within a frame

-- it has done what its parts have
done_by : (image : Image) (instr : Instr) (j : Job) (at at' : Cursor) (stack stack' : List Row) (locals locals' owned owned' shared shared' : List ℤ) (r : Within)
    → is_silent instr ≡ true → ((s : State) → effect image s instr (own_in j at stack locals owned shared) ≡ leaves r (own_in j at' stack' locals' owned' shared')) → Acts r → KeepsWords r locals locals' → KeepsWords r owned owned' → KeepsWords r shared shared'
    → HasDoneWithin image instr (own_in j at stack locals owned shared) r (own_in j at' stack' locals' owned' shared')
done_by image instr j at at' stack stack' locals locals' owned owned' shared shared' within.Done silent does acts k l m = (silent, does)
done_by image instr j at at' stack stack' locals locals' owned owned' shared shared' (within.Raises n) silent does acts k l m = (does, ((λ p e. rw k refl), l, m))
done_by image instr j at at' stack stack' locals locals' owned owned' shared shared' within.Seen silent does acts k l m = absurd acts
done_by image instr j at at' stack stack' locals locals' owned owned' shared shared' (within.Calls n) silent does acts k l m = absurd acts
done_by image instr j at at' stack stack' locals locals' owned owned' shared shared' within.Returns silent does acts k l m = absurd acts
done_by image instr j at at' stack stack' locals locals' owned owned' shared shared' within.ReturnsValue silent does acts k l m = absurd acts

no_words : (r : Within) (words : List ℤ) → Acts r → KeepsWords r words words
no_words within.Done words acts = tt
no_words (within.Raises n) words acts = refl
no_words within.Seen words acts = absurd acts
no_words (within.Calls n) words acts = absurd acts
no_words within.Returns words acts = absurd acts
no_words within.ReturnsValue words acts = absurd acts

module _ (image : Image) (given : Instr) (j : Job) (at : Cursor) (stack : List Row) (locals owned shared : List ℤ) where
  abbrev o : Own
  o = own_in j at stack locals owned shared

  of_given : (instr : Instr) (r : Within) (new : Own) → given ≡ instr → HasDoneWithin image instr o r new → HasDoneWithin image given o r new
  of_given instr r new is done = subst (λ (x : Instr). HasDoneWithin image x o r new) (sym is) done

  pub placed : (instr : Instr) (place top : ℕ) (stack' : List Row) (r : Within) → given ≡ instr → is_silent instr ≡ true → DoesTo instr (stacked at.top stack) at.place r (stacked top stack') place → Acts r
      → HasDoneWithin image given o r (own_in j (record at { place = place; top = top }) stack' locals owned shared)
  placed instr place top stack' r is silent does acts =
      of_given instr r (own_in j (record at { place = place; top = top }) stack' locals owned shared) is
      (done_by image instr j at (record at { place = place; top = top }) stack stack' locals locals owned owned shared shared r silent (λ s. does image s o) acts (no_words r locals acts) (no_words r owned acts) (no_words r shared acts))

  pub on_operands : (instr : Instr) (top : ℕ) (stack' : List Row) (r : Within) → given ≡ instr → is_silent instr ≡ true → Does instr (stacked at.top stack) r (stacked top stack') → Acts r
      → HasDoneWithin image given o r (own_in j (record at { top = top }) stack' locals owned shared)
  on_operands instr top stack' r is silent does acts =
      of_given instr r (own_in j (record at { top = top }) stack' locals owned shared) is
      (done_by image instr j at (record at { top = top }) stack stack' locals locals owned owned shared shared r silent (λ s. does image s o) acts (no_words r locals acts) (no_words r owned acts) (no_words r shared acts))

  pub on_locals : (instr : Instr) (top : ℕ) (stack' : List Row) (locals' : List ℤ) (r : Within) → given ≡ instr → is_silent instr ≡ true → DoesLocal instr (stacked at.top stack) locals r (stacked top stack') locals' → Acts r → KeepsWords r locals locals'
      → HasDoneWithin image given o r (own_in j (record at { top = top }) stack' locals' owned shared)
  on_locals instr top stack' locals' r is silent does acts keeps =
      of_given instr r (own_in j (record at { top = top }) stack' locals' owned shared) is
      (done_by image instr j at (record at { top = top }) stack stack' locals locals' owned owned shared shared r silent (λ s. does image s o) acts keeps (no_words r owned acts) (no_words r shared acts))

  pub of_locals : (instr : Instr) (top : ℕ) (stack' : List Row) (r : Within) → given ≡ instr → is_silent instr ≡ true → DoesLocal instr (stacked at.top stack) locals r (stacked top stack') locals → Acts r
      → HasDoneWithin image given o r (own_in j (record at { top = top }) stack' locals owned shared)
  of_locals instr top stack' r is silent does acts = on_locals instr top stack' locals r is silent does acts (no_words r locals acts)

  pub on_owned : (instr : Instr) (top : ℕ) (stack' : List Row) (owned' : List ℤ) (r : Within) → given ≡ instr → is_silent instr ≡ true → DoesOwned instr (stacked at.top stack) owned r (stacked top stack') owned' → Acts r → KeepsWords r owned owned'
      → HasDoneWithin image given o r (own_in j (record at { top = top }) stack' locals owned' shared)
  on_owned instr top stack' owned' r is silent does acts keeps =
      of_given instr r (own_in j (record at { top = top }) stack' locals owned' shared) is
      (done_by image instr j at (record at { top = top }) stack stack' locals locals owned owned' shared shared r silent (λ s. does image s o) acts (no_words r locals acts) keeps (no_words r shared acts))

  pub of_owned : (instr : Instr) (top : ℕ) (stack' : List Row) (r : Within) → given ≡ instr → is_silent instr ≡ true → DoesOwned instr (stacked at.top stack) owned r (stacked top stack') owned → Acts r
      → HasDoneWithin image given o r (own_in j (record at { top = top }) stack' locals owned shared)
  of_owned instr top stack' r is silent does acts = on_owned instr top stack' owned r is silent does acts (no_words r owned acts)

  pub on_shared : (instr : Instr) (top : ℕ) (stack' : List Row) (shared' : List ℤ) (r : Within) → given ≡ instr → is_silent instr ≡ true
      → ((s : State) → effect image s instr o ≡ leaves r (own_in j (record at { top = top }) stack' locals owned shared')) → Acts r → KeepsWords r shared shared'
      → HasDoneWithin image given o r (own_in j (record at { top = top }) stack' locals owned shared')
  on_shared instr top stack' shared' r is silent does acts keeps =
      of_given instr r (own_in j (record at { top = top }) stack' locals owned shared') is
      (done_by image instr j at (record at { top = top }) stack stack' locals locals owned owned shared shared' r silent does acts (no_words r locals acts) (no_words r owned acts) keeps)

  pub of_shared : (instr : Instr) (top : ℕ) (stack' : List Row) (r : Within) → given ≡ instr → is_silent instr ≡ true
      → ((s : State) → effect image s instr o ≡ leaves r (own_in j (record at { top = top }) stack' locals owned shared)) → Acts r
      → HasDoneWithin image given o r (own_in j (record at { top = top }) stack' locals owned shared)
  of_shared instr top stack' r is silent does acts = on_shared instr top stack' shared r is silent does acts (no_words r shared acts)

-- ---- beyond a frame

-- what can be done of the instruction that was not touched
pub still_safe : (image : Image) (given instr : Instr) (old o : Own) (room : ℕ) → o ≡ old → given ≡ instr → IsSafe image given old room → IsSafe image instr o room
still_safe image given instr old o room same is safe =
    subst (λ (x : Instr). IsSafe image x o room) is (subst (λ (y : Own). IsSafe image given y room) (sym same) safe)

pub then_done : (image : Image) (given instr : Instr) (old o new : Own) (r : StepResult) → o ≡ old → given ≡ instr → HasDone image instr o r new → HasDone image given old r new
then_done image given instr old o new r same is done =
    subst (λ (x : Instr). HasDone image x old r new) (sym is) (subst (λ (y : Own). HasDone image instr y r new) same done)

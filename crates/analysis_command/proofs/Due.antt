-- What is due of texts, by what was read of them.
use Rattle.std.proofs.Common.{◌≡◌, ◌<◌, ◌∙◌, ℕ, List, Err, Ok, length, refl, subst, sym}
use Rattle.std.specs.Prelude.{IfOk, Result}
use Rattle.static_rule.specs.First.{IsFirst}
use Rattle.front_end.specs.Source.{start, too_long}
use Rattle.front_end.specs.Program.{of_text}
use Rattle.code_cost.specs.Rules.{SizeFails}
use Rattle.syntax.specs.Tokens.{longest_text}
use Rattle.syntax_tree.specs.declared.place.Place.{Place}
use Rattle.syntax_tree.specs.Placed.{Prog, plain}
use Rattle.compile.specs.Steps.{IsSizeFault}
use Rattle.compile.specs.Written.{ReadsWritten}
use Rattle.compile.specs.declared.built.BuildFault.{BuildFault}
use Rattle.compile.specs.declared.built.BuildFault.TheVariants as size_fault
use Rattle.compile.specs.declared.read_text.ProgramTextFault.{ProgramTextFault}
use Rattle.compile.specs.declared.read_text.ProgramTextFault.TheVariants as text_fault
use Rattle.command_due.specs.FitDue.{IsFitDue, fit_faulty, fitted}
use Rattle.command_due.specs.Source.{IsTextFault, IsWritten, fault_line, of_program}
use Rattle.command_due.specs.WhyDue.{IsWhyDue, why_faulty, why_in_time, why_late}
use Rattle.command_answers.specs.declared.act.PreparedCall.{PreparedCall}
use Rattle.command_answers.specs.declared.status.Status.TheVariants as status
use Rattle.command_answers.specs.Acting.{puts}
use Rattle.command_answers.specs.Acts.{outcome_of}
use Rattle.command_answers.proofs.Coming.{outcome_of_puts}
use Rattle.sched_program.specs.Tasks.{IsInTime, IsNotInTime}
use Rattle.sched_program.specs.Fits.{IsFitText}
use Rattle.sched_program.specs.Levels.{IsWhyText}

-- ---- `why`

pub why_fault : (over : ℕ) (text : List ℕ) (number : ℕ) (place : Place) → IsTextFault text number place → IsWhyDue over text (outcome_of (puts status.Text (fault_line number place)))
why_fault over text number place is = why_faulty number place is (outcome_of_puts status.Text (fault_line number place))

pub why_told : (over : ℕ) (text : List ℕ) (g : Prog Place) (parts : List ℕ) → IsWritten text g → IsInTime (plain g) over → IsWhyText (plain g) over parts → IsWhyDue over text (outcome_of (puts status.Done parts))
why_told over text g parts written in_time is = why_in_time g parts written in_time is (outcome_of_puts status.Done parts)

pub why_told_late : (over : ℕ) (text : List ℕ) (g : Prog Place) (parts : List ℕ) → IsWritten text g → IsNotInTime (plain g) over → IsWhyText (plain g) over parts → IsWhyDue over text (outcome_of (puts status.Late parts))
why_told_late over text g parts written late is = why_late g parts written late is (outcome_of_puts status.Late parts)

-- ---- `fit`

pub fit_fault : (over : ℕ) (text : List ℕ) (number : ℕ) (place : Place) → IsTextFault text number place → IsFitDue over text (outcome_of (puts status.Text (fault_line number place)))
fit_fault over text number place is = fit_faulty number place is (outcome_of_puts status.Text (fault_line number place))

pub fit_told : (over : ℕ) (text : List ℕ) (g : Prog Place) (fits : List ℕ) → IsWritten text g → IsFitText (plain g) over fits → IsFitDue over text (outcome_of (puts status.Done fits))
fit_told over text g fits written is = fitted g fits written is (outcome_of_puts status.Done fits)

-- ---- what was read

pub fault_of : (why : ProgramTextFault) (number : ℕ) (place : Place) → why ≡ text_fault.Text number place → (text : List ℕ) → ReadsWritten text (Err why) → IsTextFault text number place
fault_of why number place is text answer = subst (λ (w : ProgramTextFault). ReadsWritten text (Err w)) is answer

-- what is due of the bytes of a text that was read
pub of_bytes : {E : Type 0} (P : List ℕ → PreparedCall → Type 0) (found bytes : List ℕ) (made : Result PreparedCall E) → bytes ≡ found → IfOk made (λ act. P bytes act)
    → IfOk made (λ act. (text : List ℕ) → text ≡ found → P text act)
of_bytes P found bytes (Ok act) same due = λ text is. subst (λ (t : List ℕ). P t act) (same ∙ sym is) due
of_bytes P found bytes (Err why) same due = tt

-- the fault of a text that is too long
pub long_fault : (text : List ℕ) → longest_text < length text → IsTextFault text 4 start
long_fault text long = of_program (of_text (too_long refl refl long))

-- ---- programs that are not too large

pub no_size_fault : (g : Prog Place) (why : BuildFault) (number : ℕ) (place : Place) → why ≡ size_fault.TooLarge number place → IsSizeFault g why → ((n : ℕ) (p : Place) → ¬ SizeFails g n p) → ⊥
no_size_fault g why number place is fails fits =
    let first : IsFirst (SizeFails g) (record { number = number; place = place }) = subst (IsSizeFault g) is fails in
    fits number place first.broken

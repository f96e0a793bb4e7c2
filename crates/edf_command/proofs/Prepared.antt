-- What is due of `edf`, by what files hold.
use Rattle.std.proofs.Common.{◌≡◌, ◌∙◌, ℕ, List, Option, Some, None, Bool, true, false, Ok, Err, refl, ap, subst}
use Rattle.std.specs.Prelude.{Result, IfErr, IfOk, IsSomeAnd}
use Rattle.std.specs.Bool.{OnTrue}
use Rattle.syntax_tree.specs.declared.place.Place.{Place}
use Rattle.image.specs.Named.{NamedImage}
use Rattle.outside.specs.Outside.{FilesState, AllStay, NoneFell}
use Rattle.sched_demand.specs.declared.judging.Judgement.{Judgement}
use Rattle.sched_demand.specs.declared.judging.Judgement.TheVariants as judgement
use Rattle.command_words.specs.Calls as call
use Rattle.command_due.specs.Source.{fault_line}
use Rattle.command_due.specs.CommandsDue.{Outcome, told}
use Rattle.compile.specs.Written.{ReadsWritten}
use Rattle.compile.specs.declared.read_text.ProgramTextFault.{ProgramTextFault}
use Rattle.compile.specs.declared.read_text.ProgramTextFault.TheVariants as text_fault
use Rattle.command_answers.specs.declared.act.PreparedCall.{PreparedCall}
use Rattle.command_answers.specs.declared.status.Status.TheVariants as status
use Rattle.command_answers.specs.Acts.{outcome_of}
use Rattle.command_answers.specs.declared.prepare_error.PrepareError.{PrepareError}
use Rattle.command_answers.specs.declared.prepare_error.PrepareError.TheVariants as unready
use Rattle.command_answers.specs.Acting.{CanBeDone, puts}
use Rattle.command_answers.specs.Prepared.{Prepares}
use Rattle.command_answers.proofs.Coming.{outcome_of_puts}
use Rattle.command_answers.proofs.Held.{acted, of_held, script_unread}
use Rattle.command_due.specs.EdfDue.{IsEdfDue, IsFeasibleText, IsJudgedText, edf_bad_script, edf_faulty, edf_ran, edf_unfit, edf_waits}
use Rattle.edf_command.specs.Judged.{IsMet, IsScriptDue, IsScriptError, IsStopped, IsSubjectDue, Stops, faulty, misspelled, ran, scripted, unfit, waits}

-- ---- texts that are not judged

pub unread_stops : (text : List ℕ) (why : ProgramTextFault) → ReadsWritten text (Err why) → Stops text why
unread_stops text (text_fault.Text number place) is = faulty is
unread_stops text (text_fault.Memory _) is = tt

of_stopped : (text : List ℕ) (number : ℕ) (place : Place) (script : Option (List ℕ)) → IsStopped text number place → IsEdfDue (Some text) script (outcome_of (puts status.Text (fault_line number place)))
of_stopped text number place script (faulty is) = edf_faulty text number place refl is (outcome_of_puts status.Text (fault_line number place))
of_stopped text number place script (waits g written first is) =
    edf_waits text g place refl written first (outcome_of_puts status.Text (fault_line number place) ∙ ap (λ (n : ℕ). told 2 (fault_line n place)) is)

pub stopped_edf : (why : ProgramTextFault) (number : ℕ) (place : Place) → why ≡ text_fault.Text number place → (text : List ℕ) (script : Option (List ℕ)) → Stops text why
    → IsEdfDue (Some text) script (outcome_of (puts status.Text (fault_line number place)))
stopped_edf why number place is text script stops = of_stopped text number place script (subst (λ (w : ProgramTextFault). Stops text w) is stops)

pub stopped : (tells : Bool) (held script : Option (List ℕ)) (P : List ℕ → Type 0) (outcome : Outcome) → OnTrue tells (IsSomeAnd held P)
    → ((text : List ℕ) → P text → IsEdfDue (Some text) script outcome) → OnTrue tells (IsEdfDue held script outcome)
stopped true (Some text) script P outcome is due = due text is
stopped true None script P outcome is due = absurd is
stopped false held script P outcome is due = tt

-- ---- programs that are judged

module _ (n : NamedImage) where
  of_script : (text other : List ℕ) (answer : Judgement) (script : Option (List ℕ)) (outcome : Outcome) → IsJudgedText text n answer → IsMet answer → script ≡ Some other
      → IsScriptDue n answer other outcome → IsEdfDue (Some text) script outcome
  of_script text other (judgement.Feasible points) script outcome judged met is (misspelled why fault same) = edf_bad_script text other n points why refl judged is fault same
  of_script text other (judgement.Feasible points) script outcome judged met is (ran lines end written same) = edf_ran text other n points lines end refl judged is written same
  of_script text other (judgement.Late points at demand) script outcome judged met is due = absurd met
  of_script text other judgement.Many script outcome judged met is due = absurd met

  of_subject : (text : List ℕ) (answer : Judgement) (script : Option (List ℕ)) (outcome : Outcome) → IsJudgedText text n answer → IsSubjectDue n answer script outcome → IsEdfDue (Some text) script outcome
  of_subject text answer script outcome judged (unfit is same) = edf_unfit text n answer refl judged is same
  of_subject text answer script outcome judged (scripted other met is due) = of_script text other answer script outcome judged met is due

  feasible : (answer : Judgement) → IsMet answer → (text : List ℕ) → IsJudgedText text n answer → (m : NamedImage) × (points : ℕ) × IsFeasibleText text m points
  feasible (judgement.Feasible points) met text judged = (n, points, judged)
  feasible (judgement.Late points at demand) met text judged = absurd met
  feasible judgement.Many met text judged = absurd met

module _ (tells : Bool) (program script : List ℕ) (before mid now : FilesState) (P : List ℕ → Type 0) (n : NamedImage) (answer : Judgement) where
  due_of : (t : Bool) (held a b : Option (List ℕ)) (outcome : Outcome) → OnTrue t (IsSomeAnd held P) → ((text : List ℕ) → P text → IsJudgedText text n answer)
      → OnTrue t (IsSubjectDue n answer a outcome) → a ≡ b → OnTrue t (IsEdfDue held b outcome)
  due_of true (Some text) a b outcome is judged due same = subst (λ (o : Option (List ℕ)). IsEdfDue (Some text) o outcome) same (of_subject n text answer a outcome (judged text is) due)
  due_of true None a b outcome is judged due same = absurd is
  due_of false held a b outcome is judged due same = tt

  pub edf_prepares : (result : Result PreparedCall PrepareError) → OnTrue tells (IsSomeAnd (before.held program) P) → ((text : List ℕ) → P text → IsJudgedText text n answer)
      → AllStay before.held mid.held → NoneFell before.read_faults mid.read_faults → IfOk result (λ act. OnTrue tells (IsSubjectDue n answer (mid.held script) (outcome_of act)))
      → IfOk result (CanBeDone None) → IfErr result (IsScriptError answer script mid now) → Prepares tells (call.edf program script) before now result
  edf_prepares (Ok act) is judged stays fell due done failed =
      acted tells (call.edf program script) before act done (due_of tells (before.held program) (mid.held script) (before.held script) (outcome_of act) is judged due (stays script))
  edf_prepares (Err why) is judged stays fell due done failed = unread why failed
    where
      unread : (w : PrepareError) → IsScriptError answer script mid now w → Prepares tells (call.edf program script) before now (Err w)
      unread (unready.Unread name) (error, met) =
          script_unread tells (call.edf program script) script before mid now fell (unready.Unread name) refl
          (of_held tells (before.held program) P (λ text. (m : NamedImage) × (points : ℕ) × IsFeasibleText text m points) is (λ text p. feasible n answer met text (judged text p))) error
      unread (unready.Memory _) error = tt

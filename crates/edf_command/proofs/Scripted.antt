-- What is due of a script, where the demand of the program is met.
use Rattle.std.proofs.Common.{◌≡◌, ◌≢◌, ◌++◌, ◌⊎◌, ℕ, List, Option, Some, None, Bool, true, false, Ok, Err, inl, inr, refl}
use Rattle.std.specs.Prelude.{Result, IfOk, IsSomeAnd}
use Rattle.std.specs.Bool.{OnTrue}
use Rattle.out_of_memory.specs.Refused.{refused}
use Rattle.image.specs.Named.{NamedImage}
use Rattle.script.specs.declared.script.Script.{Script}
use Rattle.script.specs.declared.fault.ScriptFault.{ScriptFault}
use Rattle.script.specs.declared.fault.ScriptFault.TheVariants as script_fault
use Rattle.script.specs.Faults.{IsFault}
use Rattle.script.specs.Scripts.{IsScript}
use Rattle.sched_demand.specs.declared.judging.Judgement.{Judgement}
use Rattle.command_due.specs.Script.{script_fault_line}
use Rattle.command_due.specs.CommandsDue.{Outcome, told}
use Rattle.command_answers.specs.declared.act.PreparedCall.{PreparedCall}
use Rattle.command_answers.specs.declared.status.Status.TheVariants as status
use Rattle.command_answers.specs.Acts.{outcome_of}
use Rattle.command_answers.specs.Acting.{puts}
use Rattle.command_answers.proofs.Coming.{put_comes_to}
use Rattle.command_due.specs.EdfDue.{edf_log}
use Rattle.command_due.specs.Report.{edf_report}
use Rattle.edf_command.specs.Judged.{IsMet, IsScriptDue, IsSubjectDue, misspelled, ran, scripted}

module _ (n : NamedImage) (answer : Judgement) where
  pub ran_due : {E : Type 0} (script : Script) (P : List ℕ → Type 0) (made : Result PreparedCall E) → ((text : List ℕ) → P text → IsScript n.names text script.lines script.end)
      → IfOk made (λ act. outcome_of act ≡ told 0 (edf_report n answer ++ edf_log n script.lines script.end))
      → IfOk made (λ act. (text : List ℕ) → P text → IsScriptDue n answer text (outcome_of act))
  ran_due script P (Ok act) is_script is = λ text p. ran script.lines script.end (is_script text p) is
  ran_due script P (Err e) is_script is = tt

  pub bad_due : {E : Type 0} (why : ScriptFault) (P : List ℕ → Type 0) (made : Result PreparedCall E) → ((text : List ℕ) → P text → (why ≡ script_fault.Memory refused) ⊎ IsFault n.names text why)
      → IfOk made (λ act. act ≡ puts status.Script (script_fault_line why)) → IfOk made (λ act. why ≢ script_fault.Memory refused)
      → IfOk made (λ act. (text : List ℕ) → P text → IsScriptDue n answer text (outcome_of act))
  bad_due why P (Ok act) answered is other = λ text p. elim (answered text p) [
    | inl memory ↦ absurd (other memory)
    | inr found ↦ misspelled why (record { is = found; is_fault = other }) (put_comes_to status.Script (script_fault_line why) act is)
  ]
  bad_due why P (Err e) answered is other = tt

  met : (tells : Bool) (held : Option (List ℕ)) (outcome : Outcome) → IsMet answer → OnTrue tells (IsSomeAnd held (λ text. IsScriptDue n answer text outcome)) → OnTrue tells (IsSubjectDue n answer held outcome)
  met true (Some text) outcome is due = scripted text is refl due
  met true None outcome is due = absurd due
  met false held outcome is due = tt

  pub met_due : {E : Type 0} (tells : Bool) (held : Option (List ℕ)) (made : Result PreparedCall E) → IsMet answer → IfOk made (λ act. OnTrue tells (IsSomeAnd held (λ text. IsScriptDue n answer text (outcome_of act))))
      → IfOk made (λ act. OnTrue tells (IsSubjectDue n answer held (outcome_of act)))
  met_due tells held (Ok act) is due = met tells held (outcome_of act) is due
  met_due tells held (Err e) is due = tt

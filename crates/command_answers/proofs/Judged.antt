-- What is due of scripts, by what was answered of them; runs that can be made.
use Rattle.std.proofs.Common.{◌≡◌, ◌≢◌, ℕ, List, Option, Ok, Err, ◌⊎◌, inl, inr, sym, subst}
use Rattle.std.specs.Prelude.{Result, IfOk}
use Rattle.out_of_memory.specs.Refused.{refused}
use Rattle.script.specs.declared.fault.ScriptFault.{ScriptFault}
use Rattle.script.specs.declared.fault.ScriptFault.TheVariants as script_fault
use Rattle.script.specs.declared.script.Script.{Script}
use Rattle.script.specs.Faults.{IsFault}
use Rattle.script.specs.Scripts.{IsScript}
use Rattle.image.specs.Named.{NamedImage}
use Rattle.command_due.specs.Script.{script_fault_line}
use Rattle.command_answers.specs.declared.act.PreparedCall.{PreparedCall}
use Rattle.command_answers.specs.declared.status.Status.TheVariants as status
use Rattle.command_answers.specs.Acts.{CanRunByRanks, outcome_of}
use Rattle.command_answers.specs.Acting.{puts}
use Rattle.command_answers.specs.Scripted.{IsRunOver, misspelled, is_run, ran}
use Rattle.command_answers.proofs.Coming.{put_comes_to}
use Rattle.command_answers.specs.Runnable.{IsRunnable}

-- what is known of what was made
pub of_made : {A E : Type 0} (made : Result A E) (it : A) (P : A → Type 0) → IfOk made (λ x. x ≡ it) → P it → IfOk made P
of_made (Ok x) it P is then = subst P (sym is) then
of_made (Err why) it P is then = tt

-- ---- scripts

pub ran_over : {E : Type 0} (front : List ℕ) (image : Option (List ℕ)) (n : NamedImage) (script : Script) (P : List ℕ → Type 0) (made : Result PreparedCall E)
    → ((text : List ℕ) → P text → IsScript n.names text script.lines script.end) → IfOk made (λ act. outcome_of act ≡ ran front image n script.lines script.end)
    → IfOk made (λ act. (text : List ℕ) → P text → IsRunOver front image n text (outcome_of act))
ran_over front image n script P (Ok act) is_script is = λ text p. is_run script.lines script.end (is_script text p) is
ran_over front image n script P (Err e) is_script is = tt

pub bad_over : {E : Type 0} (front : List ℕ) (image : Option (List ℕ)) (n : NamedImage) (why : ScriptFault) (P : List ℕ → Type 0) (made : Result PreparedCall E)
    → ((text : List ℕ) → P text → (why ≡ script_fault.Memory refused) ⊎ IsFault n.names text why)
    → IfOk made (λ act. act ≡ puts status.Script (script_fault_line why)) → IfOk made (λ act. why ≢ script_fault.Memory refused)
    → IfOk made (λ act. (text : List ℕ) → P text → IsRunOver front image n text (outcome_of act))
bad_over front image n why P (Ok act) answer is other = λ text p. elim (answer text p) [
  | inl memory ↦ absurd (other memory)
  | inr found ↦ misspelled why (record { is = found; is_fault = other }) (put_comes_to status.Script (script_fault_line why) act is)
]
bad_over front image n why P (Err e) answer is other = tt

-- ---- over a script

pub can_run : (n : NamedImage) (script : Script) → IsRunnable n → (text : List ℕ) × IsScript n.names text script.lines script.end → CanRunByRanks n script
can_run n script r (text, is) = record { limits = r.limits; valid = r.valid; plan = r.plan; names = r.names; script = r.suits text script.lines script.end is }

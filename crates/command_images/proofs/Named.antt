-- Scripts for the names of an image.
use Rattle.std.proofs.Common.{◌≡◌, ◌⊎◌, ℕ, List, Ok, Err, subst}
use Rattle.std.specs.Prelude.{IfErr, IfOk, Result}
use Rattle.out_of_memory.specs.Refused.{refused}
use Rattle.image.specs.Named.{NamedImage}
use Rattle.image.specs.declared.names.ImageNames.{ImageNames}
use Rattle.script.specs.Faults.{IsFault}
use Rattle.script.specs.Scripts.{IsScript, longest_text}
use Rattle.script.specs.declared.fault.ScriptFault.{ScriptFault}
use Rattle.script.specs.declared.fault.ScriptFault.TheVariants as script_fault
use Rattle.script.specs.declared.script.Script.{Script}
use Rattle.command_answers.specs.Acts.{CanRunByRanks}
use Rattle.command_answers.specs.Contents.{IsContent}
use Rattle.command_answers.specs.Runnable.{IsRunnable}
use Rattle.command_answers.specs.declared.reading.Content.{Content}
use Rattle.command_answers.proofs.Judged.{can_run}

pub can_run_all : (n : NamedImage) (names : ImageNames) (made : Result Script ScriptFault) → names ≡ n.names → IsRunnable n
    → IfOk made (λ script. (text : List ℕ) × IsScript names text script.lines script.end) → IfOk made (λ script. CanRunByRanks n script)
can_run_all n names (Ok script) same runnable is = can_run n script runnable (is.0, subst (λ (ns : ImageNames). IsScript ns is.0 script.lines script.end) same is.1)
can_run_all n names (Err why) same runnable is = tt

module _ (content : Content) (names own : ImageNames) where
  pub all_scripts : (made : Result Script ScriptFault) → names ≡ own
      → IfOk made (λ script. (text : List ℕ) → IsContent longest_text content text → IsScript names text script.lines script.end)
      → IfOk made (λ script. (text : List ℕ) → IsContent longest_text content text → IsScript own text script.lines script.end)
  all_scripts made same is = subst (λ (ns : ImageNames). IfOk made (λ script. (text : List ℕ) → IsContent longest_text content text → IsScript ns text script.lines script.end)) same is

  pub all_faults : (made : Result Script ScriptFault) → names ≡ own
      → IfErr made (λ why. (text : List ℕ) → IsContent longest_text content text → (why ≡ script_fault.Memory refused) ⊎ IsFault names text why)
      → IfErr made (λ why. (text : List ℕ) → IsContent longest_text content text → (why ≡ script_fault.Memory refused) ⊎ IsFault own text why)
  all_faults made same is = subst (λ (ns : ImageNames). IfErr made (λ why. (text : List ℕ) → IsContent longest_text content text → (why ≡ script_fault.Memory refused) ⊎ IsFault ns text why)) same is

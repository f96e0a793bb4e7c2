-- What is due of a script and a log, where the program has no fault.
use Rattle.std.specs.Prelude.{◌≡◌, ◌≢◌, ◌⊎◌, ℕ, List, Option, Some, Bool, IsSomeAnd}
use Rattle.std.specs.Bool.{OnTrue}
use Rattle.out_of_memory.specs.Refused.{refused}
use Rattle.syntax_tree.specs.declared.place.Place.{Place}
use Rattle.syntax_tree.specs.Placed.{Prog, plain}
use Rattle.built_image.specs.Named.{names_of}
use Rattle.command_answers.specs.declared.prepare_error.PrepareError.{PrepareError}
use Rattle.command_answers.specs.declared.prepare_error.PrepareError.TheVariants as unready
use Rattle.command_answers.specs.Prepared.{Failed}
use Rattle.outside.specs.Outside.{FilesState}
use Rattle.script.specs.declared.fault.ScriptFault.{ScriptFault}
use Rattle.script.specs.declared.fault.ScriptFault.TheVariants as fault
use Rattle.script.specs.declared.script.ScriptLine.{ScriptLine}
use Rattle.script.specs.Faults.{IsFault}
use Rattle.script.specs.Scripts.{IsScript}
use Rattle.command_due.specs.CommandsDue.{Outcome, bad_script}
use Rattle.command_due.specs.ReplayDue.{IsJudged}

-- the text is a script for the names of the program
abbrev pub IsScriptFor : Prog Place → List ℕ → Type 0
IsScriptFor g text = (lines : List ScriptLine) × (end : ℕ) × IsScript (names_of (plain g)) text lines end

-- the line of the script's fault, or what the log comes to
pub data IsReplayed (g : Prog Place) (script log : Option (List ℕ)) (outcome : Outcome) : Type 0 where
  misspelled : (text : List ℕ) (why : ScriptFault) → script ≡ Some text → IsFault (names_of (plain g)) text why → why ≢ fault.Memory refused
      → outcome ≡ bad_script why → IsReplayed g script log outcome
  judged : (text : List ℕ) (lines : List ScriptLine) (end : ℕ) (other : List ℕ) → script ≡ Some text → IsScript (names_of (plain g)) text lines end
      → log ≡ Some other → IsJudged g lines end other outcome → IsReplayed g script log outcome

-- why the script could not be read, or the log, which is read only where the script is one
abbrev pub IsLaterError : Bool → Prog Place → (before now : FilesState) → (script log : List ℕ) → PrepareError → Type 0
IsLaterError tells g before now script log (unready.Unread name) =
    Failed before now name.now
    × ((name.now ≡ script) ⊎ ((name.now ≡ log) × OnTrue tells (IsSomeAnd (before.held script) (IsScriptFor g))))
IsLaterError tells g before now script log (unready.Memory _) = Unit {0}

-- What is told of a script or a log that is refused, where the program has no fault.
use Rattle.std.specs.Prelude.{◌≡◌, ◌⊎◌, ℕ, List, Option, IsSomeAnd}
use Rattle.syntax_tree.specs.declared.place.Place.{Place}
use Rattle.syntax_tree.specs.Placed.{Prog, plain}
use Rattle.image.specs.declared.names.ImageNames.{ImageNames}
use Rattle.built_image.specs.Named.{names_of}
use Rattle.script.specs.declared.script.ScriptLine.{ScriptLine}
use Rattle.script.specs.Scripts.{IsScript}
use Rattle.command_due.specs.CommandsDue.{Outcome, told}
use Rattle.command_due.specs.ReplayDue.{refused_line}
use Rattle.command_refusals.specs.Told.{IsLogTold, IsScriptTold}
use Rattle.message_log.specs.Refused.{refused_message}
use Rattle.replay_reason_spec.specs.declared.finding.Finding.{Finding}
use Rattle.replay_reason_spec.specs.declared.finding.Finding.TheVariants as found

-- what is found of the events of a log: the line that is refused is put, and its reason told
abbrev pub IsFindingTold : ImageNames → (file log : List ℕ) → Finding → (outcome : Outcome) (message : List ℕ) → Type 0
IsFindingTold names file log found.Run outcome message = ⊥
IsFindingTold names file log (found.Refused line why) outcome message = (outcome ≡ told 9 (refused_line line)) × (message ≡ refused_message file log line names why)

-- of the log, over the script that the text is
abbrev pub IsLaterLogTold : Prog Place → (log : List ℕ) → (script_bytes log_bytes : Option (List ℕ)) → (outcome : Outcome) (message : List ℕ) → Type 0
IsLaterLogTold g log script_bytes log_bytes outcome message =
    (lines : List ScriptLine) × (end : ℕ) × IsSomeAnd script_bytes (λ text. IsScript (names_of (plain g)) text lines end)
    × IsSomeAnd log_bytes (λ text. IsLogTold g lines end log text outcome message)

-- the fault of the script, or of the log; both by the names of their files, and what these hold
abbrev pub IsScriptOrLogTold : Prog Place → (script log : List ℕ) → (script_bytes log_bytes : Option (List ℕ)) → (outcome : Outcome) (message : List ℕ) → Type 0
IsScriptOrLogTold g script log script_bytes log_bytes outcome message =
    IsSomeAnd script_bytes (λ text. IsScriptTold (names_of (plain g)) script text outcome message)
    ⊎ IsLaterLogTold g log script_bytes log_bytes outcome message

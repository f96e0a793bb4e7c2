-- What is due of a script's text, where an image is to be run over it.
use Rattle.std.specs.Prelude.{◌≡◌, ◌++◌, ℕ, List, Option}
use Rattle.image.specs.Named.{NamedImage}
use Rattle.script.specs.declared.script.ScriptLine.{ScriptLine}
use Rattle.script.specs.declared.fault.ScriptFault.{ScriptFault}
use Rattle.script.specs.Scripts.{IsScript}
use Rattle.command_due.specs.CommandsDue.{Outcome, IsScriptFault, bad_script, log}

-- what a run comes to, where this text stands before its log, and these bytes are stored, if any
-- are
abbrev pub ran : (front : List ℕ) → (image : Option (List ℕ)) → NamedImage → List ScriptLine → (end : ℕ) → Outcome
ran front image n lines end = record { status = 0; text = front ++ log n lines end; image = image }

-- the line of the text's fault, or the run over its script
pub data IsRunOver (front : List ℕ) (image : Option (List ℕ)) (n : NamedImage) (text : List ℕ) (outcome : Outcome) : Type 0 where
  misspelled : (fault : ScriptFault) → IsScriptFault n text fault → outcome ≡ bad_script fault → IsRunOver front image n text outcome
  is_run : (lines : List ScriptLine) (end : ℕ) → IsScript n.names text lines end → outcome ≡ ran front image n lines end → IsRunOver front image n text outcome

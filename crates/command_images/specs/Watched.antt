-- What is due of a script's text, where the run of an image over it is to be watched.
use Rattle.std.specs.Prelude.{◌≡◌, ℕ, List}
use Rattle.image.specs.Named.{NamedImage}
use Rattle.script.specs.declared.script.Script.{Script}
use Rattle.script.specs.declared.script.ScriptLine.{ScriptLine}
use Rattle.script.specs.declared.fault.ScriptFault.{ScriptFault}
use Rattle.script.specs.Scripts.{IsScript}
use Rattle.command_due.specs.CommandsDue.{Outcome, told, IsScriptFault, bad_script}
use Rattle.command_due.specs.StopDue.{IsStopText}
use Rattle.command_words.specs.declared.stop.Breakpoint.{Breakpoint}

-- the state where the run over these lines stops is put
abbrev pub IsSeen : Breakpoint → NamedImage → List ScriptLine → (end : ℕ) → Outcome → Type 0
IsSeen stop n lines end outcome = (text : List ℕ) × IsStopText n lines end stop text × (outcome ≡ told 0 text)

abbrev pub IsTold : Breakpoint → NamedImage → Script → Outcome → Type 0
IsTold stop n script outcome = IsSeen stop n script.lines script.end outcome

-- the line of the text's fault, or the state of the run over its script
pub data IsSeenDue (stop : Breakpoint) (n : NamedImage) (text : List ℕ) (outcome : Outcome) : Type 0 where
  misspelled : (fault : ScriptFault) → IsScriptFault n text fault → outcome ≡ bad_script fault → IsSeenDue stop n text outcome
  seen : (lines : List ScriptLine) (end : ℕ) → IsScript n.names text lines end → IsSeen stop n lines end outcome → IsSeenDue stop n text outcome

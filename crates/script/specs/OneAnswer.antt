-- A text has one answer: it is a script, or it has a fault.
use Rattle.std.specs.Prelude.{◌≡◌, ℕ, List}
use Rattle.image.specs.declared.names.ImageNames.{ImageNames}
use Rattle.script.specs.declared.script.ScriptLine.{ScriptLine}
use Rattle.script.specs.declared.fault.ScriptFault.{ScriptFault}
use Rattle.script.specs.Scripts.{IsScript}
use Rattle.script.specs.Faults.{IsFault}

-- The law: no text is a script for some names and has a fault.
abbrev pub NoScriptIsFaulty : Type 0
NoScriptIsFaulty =
    (names : ImageNames) (text : List ℕ) (lines : List ScriptLine) (last : ℕ) (fault : ScriptFault)
    → IsScript names text lines last → IsFault names text fault → ⊥

-- The law: two faults of a text are one: its number, its line and its ticks.
abbrev pub FaultsAreOne : Type 0
FaultsAreOne =
    (names : ImageNames) (text : List ℕ) (fault other : ScriptFault)
    → IsFault names text fault → IsFault names text other → fault ≡ other

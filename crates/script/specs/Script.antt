-- What holds of all scripts.
use Rattle.std.specs.Prelude.{◌≡◌, ℕ, List}
use Rattle.image.specs.declared.names.ImageNames.{ImageNames}
use Rattle.script.specs.declared.script.ScriptLine.{ScriptLine}
use Rattle.script.specs.Saying.{Said, IsInForm, spelled}
use Rattle.script.specs.Scripts.{IsScript}

-- a line says one thing
abbrev pub SaysOneThing : Type 0
SaysOneThing = (said other : Said) → IsInForm said → IsInForm other → spelled said ≡ spelled other → said ≡ other

-- a text is one script at most for some names
abbrev pub IsOneScript : Type 0
IsOneScript = (names : ImageNames) (text : List ℕ) (lines others : List ScriptLine) (last other : ℕ) → IsScript names text lines last → IsScript names text others other → (lines ≡ others) × (last ≡ other)

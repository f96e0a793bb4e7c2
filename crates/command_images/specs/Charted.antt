-- What is due of a script's text, where the run of an image over it is to be drawn.
use Rattle.std.specs.Prelude.{◌≡◌, ℕ, List}
use Rattle.image.specs.Named.{NamedImage}
use Rattle.script.specs.declared.script.Script.{Script}
use Rattle.script.specs.declared.script.ScriptLine.{ScriptLine}
use Rattle.script.specs.declared.fault.ScriptFault.{ScriptFault}
use Rattle.script.specs.Scripts.{IsScript}
use Rattle.run_chart.specs.Chart.{chart_text}
use Rattle.command_due.specs.Script.{run_of}
use Rattle.command_due.specs.CommandsDue.{Outcome, told, IsScriptFault, bad_script}

-- the chart of the run over these lines, from tick a up to before tick b, is put
abbrev pub IsDrawn : (a b : ℕ) → NamedImage → List ScriptLine → (end : ℕ) → Outcome → Type 0
IsDrawn a b n lines end outcome = outcome ≡ told 0 (chart_text n (run_of lines end) a b)

abbrev pub IsDrawnOver : (a b : ℕ) → NamedImage → Script → Outcome → Type 0
IsDrawnOver a b n script outcome = IsDrawn a b n script.lines script.end outcome

-- the line of the text's fault, or the chart of the run over its script
pub data IsDrawnDue (a b : ℕ) (n : NamedImage) (text : List ℕ) (outcome : Outcome) : Type 0 where
  misspelled : (fault : ScriptFault) → IsScriptFault n text fault → outcome ≡ bad_script fault → IsDrawnDue a b n text outcome
  drawn : (lines : List ScriptLine) (end : ℕ) → IsScript n.names text lines end → IsDrawn a b n lines end outcome → IsDrawnDue a b n text outcome

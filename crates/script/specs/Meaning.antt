-- What a script is to the meaning of programs.
use Rattle.std.specs.Prelude.{ℕ, List, map}
use Rattle.source_semantics.specs.Starts as source
use Rattle.script.specs.declared.script.ScriptLine.{ScriptLine}
use Rattle.script.specs.declared.script.ScriptLine.TheVariants.{Set, Occur}

abbrev pub line_said : ScriptLine → source.Line
line_said (Set tick dev value) = source.sets tick dev value
line_said (Occur tick event) = source.occurs tick event

-- the lines and the end, as the meaning of programs has them
abbrev pub said : List ScriptLine → ℕ → source.Script
said lines end = record { lines = map line_said lines; end_tick = end }

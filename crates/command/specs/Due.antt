-- What the line of a load tells.
use Rattle.std.specs.Prelude.{◌≡◌, ◌+◌, ◌*◌, ◌/◌, ℕ, List, length, sum_by, cond, nat_eq}
use Rattle.image.specs.Named.{NamedImage}
use Rattle.script.specs.declared.script.ScriptLine.{ScriptLine}
use Rattle.script.specs.Scripts.{IsScript}
use Rattle.command_due.specs.Source.{IsTimelyText}
use Rattle.command_due.specs.CommandsDue.{log}
use Rattle.load.specs.Program.{program_text}
use Rattle.load.specs.Script.{script_text}
use Rattle.load.specs.Summary.{mark_of, summary}

-- how many of the bytes end a line
abbrev pub lines_in : List ℕ → ℕ
lines_in bytes = sum_by (λ byte. cond (nat_eq byte 10) 1 0) bytes

-- The text of the program is that of a timely program, and the text of the script one for the names
-- of its image. The line tells how many processes there are and how many instructions the image has,
-- which are 11, 24 for each process, and one for each second process; and of the log of the image
-- over the script how many lines and bytes it has, and its mark.
pub record IsSummary (key count : ℕ) (line : List ℕ) : Type 0 where
  pub made : NamedImage
  pub timely : IsTimelyText 0 (program_text key count) made
  pub lines : List ScriptLine
  pub end : ℕ
  pub script : IsScript made.names (script_text key count) lines end
  pub code : length made.image.code ≡ 11 + 24 * count + count / 2
  pub is : line ≡ summary count (length made.image.code) (lines_in (log made lines end)) (length (log made lines end)) (mark_of (log made lines end))

-- The first line of some bytes, as a table or some more lines of one.
use Rattle.std.specs.Prelude.{◌≡◌, ◌++◌, ℕ, List, Option, Some, None}
use Rattle.text_fields.specs.Fields.{spaced}
use Rattle.table_format.specs.Spelling.{Word, SaidLine, first_line, process_words, process_line, last_line}
use Rattle.table_format.specs.Faults.{IsTableWord, IsFormed, BeginsWithFirst, BeginsWithProcess, BeginsWithLast}
use Rattle.table_reader.specs.declared.line.LineWords.{LineWords}
use Rattle.table_reader.specs.declared.next.FirstLine.{FirstLine}
use Rattle.table_reader.specs.declared.next.NextLine.{NextLine}
use Rattle.table_reader.specs.declared.next.NextLine.TheVariants.{Process, Last}
use Rattle.table_reader.specs.Reading.{line_seen}

abbrev pub IsFirst : List ℕ → Option FirstLine → Type 0
IsFirst bytes None = (name : Word) → ¬ BeginsWithFirst bytes name
IsFirst bytes (Some first) = IsTableWord first.name.now × (bytes ≡ first_line first.name.now ++ first.rest.now)

-- a line without its LF
abbrev pub IsProcess : List ℕ → Option LineWords → Type 0
IsProcess line None = (s : SaidLine) → IsFormed s → line ≡ spaced (process_words s) → ⊥
IsProcess line (Some words) = IsFormed (line_seen words) × (line ≡ spaced (process_words (line_seen words)))

abbrev pub IsNext : List ℕ → Option NextLine → Type 0
IsNext bytes None = ((s : SaidLine) → ¬ BeginsWithProcess bytes s) × ¬ BeginsWithLast bytes
IsNext bytes (Some (Process words rest)) = IsFormed (line_seen words) × (bytes ≡ process_line (line_seen words) ++ rest.now)
IsNext bytes (Some (Last rest)) = bytes ≡ last_line ++ rest.now

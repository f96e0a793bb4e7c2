-- The words of a table, each with its place and with what it is there.
use Rattle.std.specs.Prelude.{ℕ, zero, suc, ◌+◌, Bool, true, false, List, [], ◌∷◌, ◌++◌, Option, Some, None, bytes_eq, length, ◌==◌}
use Rattle.message_table.specs.Parts.{at_first, behind, role_of}
use Rattle.message_table.specs.declared.part.Role.{Role}
use Rattle.message_table.specs.declared.part.Wanted.{Wanted}
use Rattle.message_text.specs.Lines.{words}
use Rattle.message_text.specs.Shown.{line}

-- a word: its line and the column of its first byte, both from 1, and what it is there
pub record Mark : Type 0 where
  pub line : ℕ
  pub column : ℕ
  pub word : List ℕ
  pub role : Role

abbrev pub mark : (line column : ℕ) (word : List ℕ) (role : Role) → Mark
mark line column word role = record { line = line; column = column; word = word; role = role }

-- these words of a line, the first of them at this column, where this is wanted
abbrev pub marks_from : (number column : ℕ) → Wanted → List (List ℕ) → List Mark
marks_from number column wanted [] = []
marks_from number column wanted (word ∷ words) =
    mark number column word (role_of wanted word) ∷ marks_from number (column + length word + 1) (behind (role_of wanted word)) words

-- what is wanted behind these words
abbrev pub wanted_behind : Wanted → List (List ℕ) → Wanted
wanted_behind wanted [] = wanted
wanted_behind wanted (word ∷ words) = wanted_behind (behind (role_of wanted word)) words

-- the words of a line of this number
abbrev pub line_marks : (bytes : List ℕ) (number : ℕ) → List Mark
line_marks bytes number = marks_from number 1 (at_first number) (words bytes)

-- what is wanted behind the last of them
abbrev pub line_wanted : (bytes : List ℕ) (number : ℕ) → Wanted
line_wanted bytes number = wanted_behind (at_first number) (words bytes)

-- the words of the line of this number in a text
abbrev pub marks : (text : List ℕ) (number : ℕ) → List Mark
marks text number = line_marks (line text number) number

-- the words of the first lines of a text
unfoldable pub marks_to : (text : List ℕ) (count : ℕ) → List Mark
marks_to text zero = []
marks_to text (suc count) = marks_to text count ++ marks text (suc count)

-- The end of a line of a text, a CR in it, and its words.
use Rattle.std.specs.Prelude.{ℕ, ◌==◌, Bool, List, Option, count_by, nat_le, position}
use Rattle.std.specs.List.{list_any, slice_split}

-- whether an LF ends the line of this number, from 1: the text has so many LFs
abbrev pub is_ended : (text : List ℕ) (number : ℕ) → Bool
is_ended text number = nat_le number (count_by (λ b. b == 10) text)

-- whether a CR stands in a line
abbrev pub has_return : (bytes : List ℕ) → Bool
has_return bytes = list_any (λ b. b == 13) bytes

-- the place of the first CR of a line, from 0
abbrev pub return_place : (bytes : List ℕ) → Option ℕ
return_place bytes = position (λ b. b == 13) bytes

-- the words of a line, which is cut at each blank
abbrev pub words : (bytes : List ℕ) → List (List ℕ)
words bytes = slice_split (λ b. b == 32) bytes

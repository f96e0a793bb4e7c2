-- A line of a text, as it is shown, with carets below it.
use Rattle.std.specs.Prelude.{ℕ, Bool, ◌-◌, ◌++◌, ◌==◌, List, [], ◌∷◌, length, take, drop, min, max, codes, decimal, replicate, nat_lt, if◌then◌else◌}
use Rattle.std.specs.List.{slice_split, slice_index_or}
use Rattle.message_text.specs.Words.{plain}

-- the lines of a text, which is cut at each LF
abbrev pub lines : List ℕ → List (List ℕ)
lines text = slice_split (λ b. b == 10) text

-- the line of this number, from 1. Nothing where there is none
abbrev pub line : (text : List ℕ) (number : ℕ) → List ℕ
line text number = slice_index_or ([] ∷ lines text) number []

-- how many bytes are left out before a window of 160 bytes in which at most 80 stand before the
-- column; none where the line has no more than 160
abbrev pub left_out : (size column : ℕ) → ℕ
left_out size column = min (column - 81) (size - 160)

-- these bytes, with three dots in place of the first three where bytes are left out before
abbrev pub front : (bytes : List ℕ) (is_cut : Bool) → List ℕ
front bytes is_cut = if is_cut then codes "..." ++ plain (drop 3 bytes) else plain bytes

-- the first 160 of these bytes, with three dots in place of the last three where more stand there
abbrev pub window : (bytes : List ℕ) (is_cut : Bool) → List ℕ
window bytes is_cut =
    if nat_lt 160 (length bytes) then front (take 157 bytes) is_cut ++ codes "..." else front bytes is_cut

-- the bytes of a line that are shown, from the first that is not left out
abbrev pub shown : (bytes : List ℕ) (from : ℕ) → List ℕ
shown bytes from = window (drop from bytes) (nat_lt 0 from)

-- a number, right-aligned in 7 places
abbrev pub aligned : ℕ → List ℕ
aligned number = replicate (7 - length (decimal number)) 32 ++ decimal number

-- blanks, then as many carets as the word has bytes in the window, at least one
abbrev pub carets : (before size width : ℕ) → List ℕ
carets before size width = replicate before 32 ++ replicate (max (min width (size - before)) 1) 94

-- the line with carets, none for a word of no bytes
abbrev pub caret_line : (size column width : ℕ) → List ℕ
caret_line size column width =
    if width == 0 then []
    else codes "        | " ++ (carets (column - 1 - left_out size column) (min size 160) width ++ codes "\n")

abbrev pub show_line : (bytes : List ℕ) (number column width : ℕ) → List ℕ
show_line bytes number column width =
    aligned number ++ (codes " | " ++ (shown bytes (left_out (length bytes) column) ++ (codes "\n" ++ caret_line (length bytes) column width)))

-- a line of a text, and carets below a word of it
unfoldable pub show : (text : List ℕ) (number column width : ℕ) → List ℕ
show text number column width = show_line (line text number) number column width

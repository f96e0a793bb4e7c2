-- How bytes from outside are put, and the two lines of a message that come again and again.
use Rattle.std.specs.Prelude.{ℕ, ◌++◌, ◌==◌, ◌&&◌, ◌||◌, List, length, take, map, codes, decimal, nat_le, nat_lt, if◌then◌else◌}

-- a tab and a CR are put as a blank, each other byte outside 32 to 126 as `?`
abbrev pub plain_byte : ℕ → ℕ
plain_byte b = if b == 9 || b == 13 then 32 else (if nat_le 32 b && nat_le b 126 then b else 63)

abbrev pub plain : List ℕ → List ℕ
plain bytes = map plain_byte bytes

-- a word of more than 40 bytes: its first 37 and three dots
abbrev pub shortened : List ℕ → List ℕ
shortened word = if nat_lt 40 (length word) then plain (take 37 word) ++ codes "..." else plain word

-- a word between backquotes
abbrev pub quoted : List ℕ → List ℕ
quoted word = codes "`" ++ (shortened word ++ codes "`")

-- a remark, in a line of its own behind `=`
abbrev pub note : List ℕ → List ℕ
note sentence = codes "        = " ++ (sentence ++ codes "\n")

-- a place: the file's name, the line and the column
abbrev pub place : (file : List ℕ) (line column : ℕ) → List ℕ
place file line column = plain file ++ (codes ":" ++ (decimal line ++ (codes ":" ++ decimal column)))

-- the first line of a message: file, line and column, the fault's code, and what is wrong
abbrev pub head : (file : List ℕ) (line column : ℕ) (code sentence : List ℕ) → List ℕ
head file line column code sentence = place file line column ++ (codes ": " ++ (code ++ (codes ": " ++ (sentence ++ codes "\n"))))

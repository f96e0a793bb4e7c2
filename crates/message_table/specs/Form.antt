-- Why a line has no form that may stand there.
use Rattle.std.specs.Prelude.{ℕ, ◌+◌, ◌-◌, Bool, true, false, not, List, [], ◌∷◌, ◌++◌, Option, Some, None, bytes_eq, codes, count_by, find, length, max, nat_le, option_map, position, unwrap_or, ◌==◌, ◌||◌, if◌then◌else◌}
use Rattle.std.specs.List.{list_all}
use Rattle.syntax.specs.Spellings.{is_number}
use Rattle.message_table.specs.Found.{form}
use Rattle.message_table.specs.Marks.{Mark, line_marks, line_wanted}
use Rattle.message_table.specs.Parts.{choice, is_whole}
use Rattle.message_table.specs.declared.fault.FormFault.{FormFault}
use Rattle.message_table.specs.declared.fault.FormFault.TheVariants.{BehindEnd, EndMissing, NoLineFeed, CarriageReturn, Empty, BlankFirst, TwoBlanks, BlankLast, NoKey, NoTicks, WordMissing, NoForm}
use Rattle.message_table.specs.declared.fault.Found.{Found}
use Rattle.message_table.specs.declared.fault.NumeralFault.{NumeralFault}
use Rattle.message_table.specs.declared.fault.NumeralFault.TheVariants.{Plus, NoNumber, Minus, LeadingZero}
use Rattle.message_table.specs.declared.part.Role.{Role}
use Rattle.message_table.specs.declared.part.Role.TheVariants as role
use Rattle.message_table.specs.declared.part.Wanted.{Wanted}
use Rattle.message_text.specs.Lines.{is_ended, return_place}
use Rattle.message_text.specs.Shown.{line}

-- ---- the words of a line

-- the bytes behind a minus, where one stands first
abbrev pub behind_minus : List ℕ → List ℕ
behind_minus [] = []
behind_minus (b ∷ bs) = if b == 45 then bs else b ∷ bs

-- whether a word begins with this byte
abbrev pub begins_with : ℕ → List ℕ → Bool
begins_with byte [] = false
begins_with byte (b ∷ bs) = b == byte

-- why a word is no numeral
abbrev pub numeral_fault : (word : List ℕ) → NumeralFault
numeral_fault word =
    if begins_with 43 word then Plus
    else (if not (is_number (behind_minus word)) then NoNumber
    else (if begins_with 45 word then Minus else LeadingZero))

-- whether a word cannot stand at its place
abbrev pub is_misplaced : Role → Bool
is_misplaced (role.NoKey part) = true
is_misplaced (role.NoTicks part) = true
is_misplaced (role.Key part) = false
is_misplaced (role.Name part) = false
is_misplaced (role.Ticks part) = false

-- what is wrong with such a word
abbrev pub misplaced_fault : Role → (word : List ℕ) → FormFault
misplaced_fault (role.NoKey part) word = NoKey part
misplaced_fault (role.NoTicks part) word = NoTicks (numeral_fault word)
misplaced_fault (role.Key part) word = NoForm
misplaced_fault (role.Name part) word = NoForm
misplaced_fault (role.Ticks part) word = NoForm

abbrev pub misplaced : Mark → Found
misplaced mark = form mark.column (length mark.word) (misplaced_fault mark.role mark.word)

-- a line of which no word is misplaced: a word is missing behind it
abbrev pub missing : (size : ℕ) → Wanted → Found
missing size wanted = if is_whole wanted then form 1 0 NoForm else form (size + 1) 1 WordMissing

-- the first word that cannot stand at its place, else a word is missing
abbrev pub word_found : (size : ℕ) → Wanted → List Mark → Found
word_found size wanted marks = unwrap_or (option_map misplaced (find (λ mark. is_misplaced mark.role) marks)) (missing size wanted)

-- ---- blanks

abbrev pub is_empty : List ℕ → Bool
is_empty bytes = length bytes == 0

-- a word of no bytes: before another word a second blank, else a blank at the end of the line
abbrev pub blank : (size : ℕ) → Mark → (more : List Mark) → Found
blank size mark more = if list_all (λ other. is_empty other.word) more then form size 1 BlankLast else form mark.column 1 TwoBlanks

-- the first word of no bytes
abbrev pub blank_found : (size : ℕ) → List Mark → Option Found
blank_found size [] = None
blank_found size (mark ∷ marks) = if is_empty mark.word then Some (blank size mark marks) else blank_found size marks

-- ---- the bytes of a line

-- a line that has words and begins with none but a blank
abbrev pub spaced_found : (size : ℕ) → Wanted → List Mark → Found
spaced_found size wanted marks = unwrap_or (blank_found size marks) (word_found size wanted marks)

-- a line without CR
abbrev pub bytes_found : (bytes : List ℕ) → Wanted → List Mark → Found
bytes_found bytes wanted marks =
    if is_empty bytes then form 1 1 Empty
    else (if begins_with 32 bytes then form 1 1 BlankFirst else spaced_found (length bytes) wanted marks)

-- the first CR of a line
abbrev pub return_found : (bytes : List ℕ) → Option Found
return_found bytes = option_map (λ at. form (at + 1) 1 CarriageReturn) (return_place bytes)

abbrev pub line_found : (bytes : List ℕ) → Wanted → List Mark → Found
line_found bytes wanted marks = unwrap_or (return_found bytes) (bytes_found bytes wanted marks)

-- a line of this number that an LF ends
abbrev pub ended : (bytes : List ℕ) (number : ℕ) → Found
ended bytes number = line_found bytes (line_wanted bytes number) (line_marks bytes number)

-- ---- the line in its text

-- the last line, which no LF ends
abbrev pub unended : (bytes : List ℕ) → Found
unended bytes = if is_empty bytes then form 1 1 EndMissing else form (length bytes + 1) 1 NoLineFeed

-- whether the line before this one is the last line of a table
abbrev pub is_behind_end : (text : List ℕ) (number : ℕ) → Bool
is_behind_end text number = bytes_eq (line text (number - 1)) (codes "end")

-- what is wrong with the form of the line of this number
unfoldable pub form_found : (text : List ℕ) (number : ℕ) → Found
form_found text number =
    if is_behind_end text number then form 1 (max (length (line text number)) 1) BehindEnd
    else (if is_ended text number then ended (line text number) number
    else unended (line text number))

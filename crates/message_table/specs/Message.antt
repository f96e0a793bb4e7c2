-- The message for a text that is no task table.
use Rattle.std.specs.Prelude.{ℕ, ◌-◌, ◌++◌, List, [], Option, Some, None, codes, decimal, drop, length, nat_lt, take, unwrap_or, ◌==◌, if◌then◌else◌}
use Rattle.message_table.specs.Counts.{count_found}
use Rattle.message_table.specs.Form.{form_found}
use Rattle.message_table.specs.Found.{unknown}
use Rattle.message_table.specs.Marks.{marks, marks_to}
use Rattle.message_table.specs.Names.{name_found, taken_found}
use Rattle.message_table.specs.Sentences.{remark, sentence}
use Rattle.message_table.specs.Ticks.{range_found, unmet_found}
use Rattle.message_table.specs.declared.fault.Fault.{Fault}
use Rattle.message_table.specs.declared.fault.Fault.TheVariants as fault
use Rattle.message_table.specs.declared.fault.Found.{Found}
use Rattle.message_table.specs.declared.fault.NameFault.{NameFault}
use Rattle.message_table.specs.declared.fault.NameFault.TheVariants.{Keyword, TooLong, NoName, Taken}
use Rattle.message_text.specs.Shown.{line, show}
use Rattle.message_text.specs.Words.{head, note, plain}
use Rattle.table_format.specs.Rules.{longest_text}

-- what is wrong with the line of a fault, by the number of the fault. No line before it has one.
abbrev pub found_by : (text : List ℕ) (number line : ℕ) → Found
found_by text number line =
    if number == 1 then form_found text line
    else (if number == 2 then unwrap_or (name_found (marks text line)) unknown
    else (if number == 3 then unwrap_or (taken_found (marks_to text line)) unknown
    else (if number == 4 then unwrap_or (range_found (marks text line)) unknown
    else (if number == 5 then unwrap_or (unmet_found (marks text line)) unknown
    else (if number == 6 then unwrap_or (count_found (marks_to text line)) unknown
    else unknown)))))

-- the word at a place
abbrev pub word_at : (bytes : List ℕ) (column width : ℕ) → List ℕ
word_at bytes column width = take width (drop (column - 1) bytes)

-- the line that has a taken name first
abbrev pub earlier_of_name : (text : List ℕ) → NameFault → List ℕ
earlier_of_name text (Taken by line) = show text line 1 0
earlier_of_name text wrong = []

abbrev pub earlier : (text : List ℕ) → Fault → List ℕ
earlier text (fault.Name wrong) = earlier_of_name text wrong
earlier text wrong = []

-- the note behind the lines that are shown, if there is one
abbrev pub note_of : Option (List ℕ) → List ℕ
note_of None = []
note_of (Some sentence) = note sentence

-- the code of a fault
abbrev pub code_of : (number : ℕ) → List ℕ
code_of number = codes "T" ++ decimal number

-- the line with the word, the line that has its name first, and a note
abbrev pub shown : (text : List ℕ) (at : ℕ) → Found → (word : List ℕ) → List ℕ
shown text at found word = show text at found.column found.width ++ (earlier text found.fault ++ note_of (remark found.fault at word))

-- what is wrong at a word: the place and a sentence, and what is shown of it
abbrev pub told_at : (file text : List ℕ) (number at : ℕ) → Found → (word : List ℕ) → List ℕ
told_at file text number at found word = head file at found.column (code_of number) (sentence found.fault word) ++ shown text at found word

-- what is wrong with a line
abbrev pub told : (file text : List ℕ) (number at : ℕ) → Found → List ℕ
told file text number at found = told_at file text number at found (word_at (line text at) found.column found.width)

-- the message for a text of too many bytes
unfoldable pub long_message : (file : List ℕ) → List ℕ
long_message file = plain file ++ codes ": T7: the table has more than 1048576 bytes\n"

-- the message for a text with a fault of this number on this line
unfoldable pub table_message : (file text : List ℕ) (number line : ℕ) → List ℕ
table_message file text number line =
    if nat_lt longest_text (length text) then long_message file else told file text number line (found_by text number line)

-- What is told of each fault, and the remark behind it.
use Rattle.std.specs.Prelude.{ℕ, ◌+◌, Bool, List, [], ◌∷◌, ◌++◌, Option, Some, None, codes, decimal, length, nat_lt, ◌==◌, ◌||◌, if◌then◌else◌}
use Rattle.message_table.specs.Form.{begins_with}
use Rattle.message_table.specs.Parts.{choice}
use Rattle.message_table.specs.Ticks.{least as least_ticks, ticks}
use Rattle.message_table.specs.declared.fault.CountFault.{CountFault}
use Rattle.message_table.specs.declared.fault.CountFault.TheVariants as count
use Rattle.message_table.specs.declared.fault.Fault.{Fault}
use Rattle.message_table.specs.declared.fault.Fault.TheVariants as fault
use Rattle.message_table.specs.declared.fault.FormFault.{FormFault}
use Rattle.message_table.specs.declared.fault.FormFault.TheVariants.{BehindEnd, EndMissing, NoLineFeed, CarriageReturn, Empty, BlankFirst, TwoBlanks, BlankLast, NoKey, NoTicks, WordMissing, NoForm}
use Rattle.message_table.specs.declared.fault.NameFault.{NameFault}
use Rattle.message_table.specs.declared.fault.NameFault.TheVariants.{Keyword, TooLong, NoName, Taken}
use Rattle.message_table.specs.declared.fault.NumeralFault.{NumeralFault}
use Rattle.message_table.specs.declared.fault.NumeralFault.TheVariants.{Plus, NoNumber, Minus, LeadingZero}
use Rattle.message_table.specs.declared.fault.TicksFault.{TicksFault}
use Rattle.message_table.specs.declared.fault.TicksFault.TheVariants as wrong
use Rattle.message_table.specs.declared.part.Part.{Part}
use Rattle.message_table.specs.declared.part.Part.TheVariants.{FirstLine, OtherLine, Table, End, Process, Event, Frame, EventFrame, Deadline, EventDeadline, First, Cost, Stay}
use Rattle.message_text.specs.Words.{quoted, shortened}

-- ---- remarks that come again

abbrev pub first_form : List ℕ
first_form = codes "the first line is `table NAME`"

abbrev pub lines_form : List ℕ
lines_form = codes "lines are `process P frame T cost C` and last `end`"

abbrev pub process_form : List ℕ
process_form = codes "the form is `process P [event E] frame T [deadline D] [first N] cost C [stay M S ..]`"

abbrev pub finer : List ℕ
finer = codes "multiply all numbers of the table by the same number"

-- ---- forms

-- a word that is no numeral
abbrev pub numeral_sentence : NumeralFault → (word : List ℕ) → List ℕ
numeral_sentence Plus word = codes "`+` stands before no number"
numeral_sentence NoNumber word = quoted word ++ codes " is no whole number"
numeral_sentence Minus word = codes "`-` stands before no number"
numeral_sentence LeadingZero word = quoted word ++ codes " has a leading zero"

-- what is wanted in its place
abbrev pub wanted_behind : Part → List ℕ
wanted_behind part = codes " stands where " ++ (choice part ++ codes " is wanted")

-- a word behind this part that is no key of a part
abbrev pub key_problem : Part → List ℕ
key_problem FirstLine = codes " does not begin this line"
key_problem OtherLine = codes " does not begin this line"
key_problem Table = codes " is one word too many"
key_problem End = codes " is one word too many"
key_problem part = wanted_behind part

-- what is told of the form of a line where no word is named
abbrev pub form_words : FormFault → List ℕ
form_words BehindEnd = codes "a line behind the `end` line"
form_words EndMissing = codes "the last line, `end`, is missing"
form_words NoLineFeed = codes "the last line has no line feed"
form_words CarriageReturn = codes "a carriage return"
form_words Empty = codes "an empty line"
form_words BlankFirst = codes "a blank at the start"
form_words TwoBlanks = codes "two blanks"
form_words BlankLast = codes "a blank at the end"
form_words WordMissing = codes "a word is missing"
form_words wrong = codes "this line has no form that may stand here"

abbrev pub form_sentence : FormFault → (word : List ℕ) → List ℕ
form_sentence (NoKey part) word = quoted word ++ key_problem part
form_sentence (NoTicks wrong) word = numeral_sentence wrong word
form_sentence wrong word = form_words wrong

-- a word that begins as a comment does elsewhere
abbrev pub is_comment : (word : List ℕ) → Bool
is_comment word = begins_with 37 word || begins_with 35 word || begins_with 47 word

-- a line that begins with a wrong word
abbrev pub line_remark : (form word : List ℕ) → List ℕ
line_remark form word = if is_comment word then codes "a table has no comments" else form

abbrev pub key_remark : Part → (word : List ℕ) → List ℕ
key_remark FirstLine word = line_remark first_form word
key_remark OtherLine word = line_remark lines_form word
key_remark Table word = first_form
key_remark End word = codes "the last line is `end`"
key_remark part word = process_form

abbrev pub numeral_remark : NumeralFault → Option (List ℕ)
numeral_remark NoNumber = Some (codes "numbers are whole ticks; multiply all numbers of the table by the same number")
numeral_remark wrong = None

-- on the first line its form, else this one
abbrev pub first_or : (number : ℕ) → (form : List ℕ) → List ℕ
first_or number form = if number == 1 then first_form else form

abbrev pub form_remark : FormFault → (number : ℕ) (word : List ℕ) → Option (List ℕ)
form_remark NoLineFeed number word = Some (codes "end the last line too")
form_remark CarriageReturn number word = Some (codes "lines end with a line feed alone")
form_remark Empty number word = Some (first_or number lines_form)
form_remark TwoBlanks number word = Some (codes "one blank stands between words")
form_remark (NoKey part) number word = Some (key_remark part word)
form_remark (NoTicks wrong) number word = numeral_remark wrong
form_remark WordMissing number word = Some (first_or number process_form)
form_remark wrong number word = None

-- ---- names

-- a part of a line, as what has a name
abbrev pub what : Part → List ℕ
what Table = codes "the table"
what Process = codes "a process"
what Event = codes "an event"
what part = codes "a monitor"

abbrev pub name_sentence : NameFault → (word : List ℕ) → List ℕ
name_sentence Keyword word = quoted word ++ codes " is a word of the language and cannot be a name"
name_sentence TooLong word = codes "the name " ++ (quoted word ++ (codes " has " ++ (decimal (length word) ++ codes " bytes; 63 are the most")))
name_sentence NoName word = quoted word ++ codes " is no name"
name_sentence (Taken by line) word = quoted word ++ (codes " is " ++ (what by ++ (codes " of line " ++ decimal line)))

abbrev pub name_remark : NameFault → Option (List ℕ)
name_remark Keyword = None
name_remark TooLong = Some (codes "write a shorter name")
name_remark NoName = Some (codes "a name begins with a letter and has letters a to z and A to Z, digits and `_`")
name_remark (Taken by line) = Some (codes "give one of them another name")

-- ---- ticks

-- a part of a line, as what has ticks
abbrev pub ticks_of : Part → List ℕ
ticks_of Frame = codes "the frame is "
ticks_of EventFrame = codes "the frame is "
ticks_of Deadline = codes "the deadline is "
ticks_of EventDeadline = codes "the deadline is "
ticks_of First = codes "the first activation is "
ticks_of Stay = codes "the stay is "
ticks_of part = codes "the cost is "

-- the range of a part's ticks
abbrev pub range_of : Part → (frame : ℕ) → List ℕ
range_of Frame frame = codes "; it may be 10 to 1000000000"
range_of EventFrame frame = codes "; it may be 10 to 1000000000"
range_of Deadline frame = codes "; it may be 10 to " ++ (decimal frame ++ codes ", its frame")
range_of EventDeadline frame = codes "; it may be 10 to " ++ (decimal frame ++ codes ", its frame")
range_of First frame = codes "; it may be 0 to 1000000000"
range_of Stay frame = codes "; it may be 3 to 1000000000"
range_of part frame = codes "; it may be 4 to 1000000000"

-- the costs that can be met with the stays of a line
abbrev pub costs_with_stays : (least more : ℕ) → List ℕ
costs_with_stays least more = codes " cannot be met with its stays; " ++ (decimal least ++ (codes " can, and " ++ (decimal more ++ codes " or more")))

-- a word as a cost
abbrev pub cost_word : (word : List ℕ) → List ℕ
cost_word word = codes "a cost of " ++ shortened word

abbrev pub ticks_sentence : TicksFault → (word : List ℕ) → List ℕ
ticks_sentence (wrong.OutOfRange part frame) word = ticks_of part ++ (shortened word ++ range_of part frame)
ticks_sentence wrong.Stay word = codes "a stay of " ++ (shortened word ++ codes " cannot be met; 3 can, and 6 or more")
ticks_sentence wrong.Cost word = codes "a cost of " ++ (shortened word ++ codes " cannot be met; 4 can, and 7 or more")
ticks_sentence (wrong.CostWithStays least more) word = cost_word word ++ costs_with_stays least more

-- ticks below their range
abbrev pub below_remark : Part → (word : List ℕ) → Option (List ℕ)
below_remark part word = if nat_lt (ticks word) (least_ticks part) then Some finer else None

abbrev pub ticks_remark : TicksFault → (word : List ℕ) → Option (List ℕ)
ticks_remark (wrong.OutOfRange part frame) word = below_remark part word
ticks_remark wrong.Stay word = Some finer
ticks_remark wrong.Cost word = Some finer
ticks_remark (wrong.CostWithStays least more) word = Some (codes "an activation takes 4 ticks, and each stay 15 beside its own")

-- ---- counts

abbrev pub count_sentence : CountFault → List ℕ
count_sentence count.NoProcess = codes "the table has no process"
count_sentence count.Process = codes "this is process number 65; 64 are the most"
count_sentence count.Monitor = codes "this is monitor number 65; 64 are the most"
count_sentence count.Stay = codes "this is stay number 513; 512 are the most"

abbrev pub count_remark : CountFault → Option (List ℕ)
count_remark count.NoProcess = Some lines_form
count_remark wrong = None

-- ---- any of these

-- what is told of a fault at a word
unfoldable pub sentence : Fault → (word : List ℕ) → List ℕ
sentence (fault.Form wrong) word = form_sentence wrong word
sentence (fault.Name wrong) word = name_sentence wrong word
sentence (fault.Ticks wrong) word = ticks_sentence wrong word
sentence (fault.Count wrong) word = count_sentence wrong
sentence fault.Unknown word = codes "this line cannot stand here"

-- the remark behind it, in the line of this number
unfoldable pub remark : Fault → (number : ℕ) (word : List ℕ) → Option (List ℕ)
remark (fault.Form wrong) number word = form_remark wrong number word
remark (fault.Name wrong) number word = name_remark wrong
remark (fault.Ticks wrong) number word = ticks_remark wrong word
remark (fault.Count wrong) number word = count_remark wrong
remark fault.Unknown number word = None

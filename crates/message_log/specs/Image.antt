-- The messages for bytes that are no image, for an image that is not valid, and for a text that is
-- that of no image. Each fault has a letter, a number behind it, and a sentence.
use Rattle.std.specs.Prelude.{ℕ, Bool, ◌-◌, ◌++◌, ◌&&◌, List, [], ◌∷◌, Option, Some, None, length, codes, decimal, nat_eq, nat_le, nat_lt, slice_get, if◌then◌else◌}
use Rattle.std.specs.List.{slice_index_or}
use Rattle.machine_semantics.specs.Image.{Routine}
use Rattle.image.specs.Named.{NamedImage}
use Rattle.image.specs.declared.names.ImageNames.{ImageNames}
use Rattle.valid_image.specs.Valid.{number_of}
use Rattle.faulty_part.specs.declared.part.FaultyPart.{FaultyPart}
use Rattle.faulty_part.specs.declared.part.FaultyPart.TheVariants as part
use Rattle.faulty_part.specs.declared.part.Subject.{Subject}
use Rattle.faulty_part.specs.declared.part.Subject.TheVariants as subject
use Rattle.faulty_part.specs.declared.part.PartFault.{PartFault}
use Rattle.faulty_part.specs.Among.{number_among}
use Rattle.faulty_part.specs.Law.{test_of}
use Rattle.event_log.specs.Line.{monitor_name, process_name}
use Rattle.message_text.specs.Lines.{has_return, is_ended}
use Rattle.message_text.specs.Words.{head, note, plain}
use Rattle.message_text.specs.Shown.{line, show}

-- the file and the fault, by its letter and number
abbrev pub opening : (file letter : List ℕ) (number : ℕ) → List ℕ
opening file letter number = plain file ++ (codes ": " ++ (letter ++ (decimal number ++ codes ": ")))

-- ---- bytes that are no image

abbrev pub no_image : List ℕ
no_image = codes "the bytes are no image"

-- what is wrong, from the fault with number 1 on
abbrev pub image_sentences : List (List ℕ)
image_sentences =
    codes "the bytes do not begin with `RTEU` and version 1 or 2"
    ∷ codes "the bytes end inside a field"
    ∷ codes "bytes stand behind the code"
    ∷ codes "a number is outside its range"
    ∷ codes "a name is no identifier, is a keyword or is taken"
    ∷ codes "no tag, kind, direction or instruction has this number"
    ∷ codes "an unused field is not 0"
    ∷ codes "the numbers of a handler do not ascend or are not allowed"
    ∷ codes "the image has more than 8388608 bytes"
    ∷ []

abbrev pub image_sentence : (number : ℕ) → List ℕ
image_sentence number = slice_index_or (no_image ∷ image_sentences) number no_image

-- the place of the fault, from 0
abbrev pub place : (offset : ℕ) → List ℕ
place offset = codes "at byte " ++ (decimal offset ++ codes ": ")

-- the message for bytes that are no image
unfoldable pub image_message : (file : List ℕ) (number offset : ℕ) → List ℕ
image_message file number offset = opening file (codes "I") number ++ (place offset ++ (image_sentence number ++ codes "\n"))

-- ---- the parts of an image

-- by its kind and its name
abbrev pub called : (kind name : List ℕ) → List ℕ
called kind name = kind ++ (codes " `" ++ (name ++ codes "`"))

abbrev pub process_called : ImageNames → ℕ → List ℕ
process_called names k = called (codes "process") (process_name names k)

abbrev pub monitor_called : ImageNames → ℕ → List ℕ
monitor_called names m = called (codes "monitor") (monitor_name names m)

-- whose routine it is
abbrev pub owner_called : ImageNames → Routine → List ℕ
owner_called names x =
    if nat_eq x.kind 1 then process_called names x.owner else (if nat_eq x.kind 2 then monitor_called names x.owner else codes "the program")

-- a routine by its number among those of its owner, from 0
abbrev pub routine_called : NamedImage → (r : ℕ) → Option Routine → List ℕ
routine_called n r None = codes "the image"
routine_called n r (Some x) = codes "routine " ++ (decimal (number_among n.image.routines r x) ++ (codes " of " ++ owner_called n.names x))

abbrev pub part_called : NamedImage → FaultyPart → List ℕ
part_called n (part.Routine r) = routine_called n r (slice_get n.image.routines r)
part_called n (part.Process k) = process_called n.names k
part_called n (part.Monitor m) = monitor_called n.names m
part_called n part.Whole = codes "the image"

-- ---- what is wrong with them

-- a number behind some words and before others
abbrev pub around : (before : List ℕ) (a : ℕ) (behind : List ℕ) → List ℕ
around before a behind = before ++ (decimal a ++ behind)

-- two numbers among some words
abbrev pub both : (before : List ℕ) (a : ℕ) (middle : List ℕ) (b : ℕ) (behind : List ℕ) → List ℕ
both before a middle b behind = before ++ (decimal a ++ (middle ++ (decimal b ++ behind)))

-- a number of 32 bits with its sign
abbrev pub signed : ℕ → List ℕ
signed b = if nat_le 2147483648 b && nat_lt b 4294967296 then codes "-" ++ decimal (4294967296 - b) else decimal b

-- a number and one with its sign among some words
abbrev pub among : (before : List ℕ) (a : ℕ) (middle : List ℕ) (b : ℕ) (behind : List ℕ) → List ℕ
among before a middle b behind = before ++ (decimal a ++ (middle ++ (signed b ++ behind)))

-- what is declared and what is needed
abbrev pub declared : (what : List ℕ) (a b : ℕ) → List ℕ
declared what a b = what ++ (codes ": declared " ++ (decimal a ++ (codes ", needed " ++ decimal b)))

-- a ceiling, which is none where no process enters
abbrev pub ceiling : ℕ → List ℕ
ceiling n = if nat_eq n 65535 then codes "none" else decimal n

abbrev pub ceilings : (a b : ℕ) → List ℕ
ceilings a b = codes "ceiling: declared " ++ (ceiling a ++ (codes ", needed " ++ ceiling b))

-- a number that a part declares
abbrev pub quantity : Subject → List ℕ
quantity subject.Run = codes "run"
quantity subject.Suspension = codes "suspension"
quantity subject.Waits = codes "waits"
quantity subject.Stay = codes "stay"
quantity subject.Locals = codes "locals"
quantity subject.Stack = codes "stack"
quantity subject.Base = codes "base"
quantity subject.Words = codes "words"
quantity subject.Rank = codes "rank"
quantity subject.Block = codes "block"
quantity _ = codes "bound"

-- of one part, with the two numbers of the fault
abbrev pub part_sentence : Subject → (a b : ℕ) → List ℕ
part_sentence subject.Operand a b = among (codes "the instruction at address ") a (codes ": the operand ") b (codes " is not allowed")
part_sentence subject.Code a b = around (codes "its code, declared to start at address ") a (codes ", is not that of its tree")
part_sentence subject.Handler a b = codes "its handler is not right behind its body, or reaches a wait"
part_sentence subject.Ceiling a b = ceilings a b
part_sentence subject.Deadline a b = both (codes "bound: declared ") a (codes ", at most ") b (codes ", its deadline")
part_sentence what a b = declared (quantity what) a b

-- of the image as a whole
abbrev pub whole_sentence : Subject → (a b : ℕ) → List ℕ
whole_sentence subject.Words a b = around (codes "the monitors and processes have ") b (codes " words; 1048576 are the most")
whole_sentence _ a b = around (codes "the code from address ") a (codes " on belongs to no routine and no process")

abbrev pub valid_sentence : NamedImage → FaultyPart → Subject → (a b : ℕ) → List ℕ
valid_sentence n part.Whole what a b = whole_sentence what a b
valid_sentence n p what a b = part_called n p ++ (codes ": " ++ part_sentence what a b)

-- the message for an image that is not valid, by the part that its fault speaks of
unfoldable pub valid_message : (file : List ℕ) → NamedImage → PartFault → List ℕ
valid_message file n f = opening file (codes "V") (number_of (test_of f.subject)) ++ (valid_sentence n f.part f.subject f.a f.b ++ codes "\n")

-- ---- a text that is that of no image

abbrev pub no_text : List ℕ
no_text = codes "the text is that of no image"

-- what is wrong, from the fault with number 1 on
abbrev pub text_sentences : List (List ℕ)
text_sentences =
    codes "this line has no form that may stand here"
    ∷ codes "a number, a name or a list of this line is not allowed"
    ∷ []

abbrev pub text_sentence : (number : ℕ) → List ℕ
text_sentence number = slice_index_or (no_text ∷ text_sentences) number no_text

-- of a line that no LF ends
abbrev pub open_note : (shown : List ℕ) → List ℕ
open_note [] = note (codes "the text ends here; `end` is missing")
open_note (byte ∷ bytes) = note (codes "the last line has no line feed")

-- what may have led to the fault, the first that applies
abbrev pub text_note : (shown : List ℕ) (is_ended : Bool) → List ℕ
text_note shown is_ended =
    if has_return shown then note (codes "a carriage return; lines end with a line feed alone")
    else (if is_ended then [] else open_note shown)

-- a text that is too long
unfoldable pub long_text_message : (file : List ℕ) → List ℕ
long_text_message file = opening file (codes "A") 3 ++ codes "the text has more than 8388608 bytes\n"

-- a line of the text that has a fault
abbrev pub line_message : (file text : List ℕ) (fault number : ℕ) → List ℕ
line_message file text fault number =
    head file number 1 (codes "A" ++ decimal fault) (text_sentence fault)
    ++ (show text number 1 0 ++ text_note (line text number) (is_ended text number))

-- the message for a text that is that of no image
unfoldable pub image_text_message : (file text : List ℕ) (number line : ℕ) → List ℕ
image_text_message file text number line =
    if nat_lt 8388608 (length text) then long_text_message file else line_message file text number line

-- The message for a text that is no script.
use Rattle.std.specs.Prelude.{ℕ, ◌+◌, ◌-◌, ◌++◌, ◌==◌, Bool, List, [], length, max, Option, Some, None, codes, decimal, nat_lt, unwrap_or, if◌then◌else◌}
use Rattle.image.specs.declared.names.ImageNames.{ImageNames}
use Rattle.script.specs.declared.fault.ScriptFault.{ScriptFault}
use Rattle.script.specs.declared.fault.ScriptFault.TheVariants.{Bad, Memory}
use Rattle.message_text.specs.Lines.{is_ended}
use Rattle.message_text.specs.Shown.{line, show}
use Rattle.message_text.specs.Words.{head, note, plain}
use Rattle.message_script.specs.declared.telling.Told.{Told}
use Rattle.message_script.specs.declared.telling.Note.{Note}
use Rattle.message_script.specs.Earlier.{early, soon}
use Rattle.message_script.specs.Forms.{line_flaw}
use Rattle.message_script.specs.Told.{at_byte, remark}
use Rattle.message_script.specs.Unknown.{unknown}

-- a text with too many bytes
unfoldable pub long_message : (file : List ℕ) → List ℕ
long_message file = plain file ++ codes ": S6: the script has more than 16777216 bytes\n"

-- no line says the end, or this one stands behind it
unfoldable pub end_sentence : (is_ended : Bool) → List ℕ
end_sentence is_ended = if is_ended then codes "a line behind the `end` line" else codes "the last line, `end H`, is missing"

-- of the whole line
unfoldable pub of_line : (bytes sentence : List ℕ) → Told
of_line bytes sentence = record { column = 1; width = max (length bytes) 1; sentence = sentence; earlier = None; note = None }

unfoldable pub too_many : Told
too_many = at_byte 1 (codes "line 1000001; 1000000 lines are the most") None

-- what the table of the fault tells, else a sentence of the whole line
abbrev pub or_line : Option Told → (bytes sentence : List ℕ) → Told
or_line row bytes sentence = unwrap_or row (of_line bytes sentence)

-- of a line in no form
abbrev pub no_form : (bytes : List ℕ) (is_ended : Bool) → Told
no_form bytes is_ended = or_line (line_flaw bytes is_ended) bytes (codes "the line has no form of a script")

-- of a line with a name that is not known
abbrev pub no_name : ImageNames → (bytes : List ℕ) → Told
no_name names bytes = or_line (unknown names bytes) bytes (codes "a name that is not known")

-- of the line of this number, whose tick is too low
abbrev pub too_low : (text : List ℕ) (number : ℕ) (bytes : List ℕ) → Told
too_low text number bytes = or_line (early text number) bytes (codes "the tick is too low")

-- of the line of this number, whose event comes so many ticks after its last occurrence
abbrev pub too_soon : ImageNames → (text : List ℕ) (number ticks : ℕ) (bytes : List ℕ) → Told
too_soon names text number ticks bytes = or_line (soon names text number ticks) bytes (codes "the event comes too soon")

-- what is told of a line, by the fault's number and how many ticks lie between its two
unfoldable pub told : ImageNames → (text : List ℕ) (number line ticks : ℕ) → Told
told names text number at ticks =
    if number == 1 then no_form (line text at) (is_ended text at)
    else (if number == 2 then no_name names (line text at)
    else (if number == 3 then too_low text at (line text at)
    else (if number == 4 then too_soon names text at ticks (line text at)
    else (if number == 5 then of_line (line text at) (end_sentence (is_ended text at)) else too_many))))

-- an earlier line, and a remark
abbrev pub shown_line : (text : List ℕ) → Option ℕ → List ℕ
shown_line text None = []
shown_line text (Some earlier) = show text earlier 1 0

abbrev pub remarked : Option Note → List ℕ
remarked None = []
remarked (Some it) = note (remark it)

-- the fault's number and sentence, its line, an earlier line and a remark
unfoldable pub spelled : (file text : List ℕ) (number line : ℕ) → Told → List ℕ
spelled file text number at told =
    head file at told.column (codes "S" ++ decimal number) told.sentence
    ++ (show text at told.column told.width ++ (shown_line text told.earlier ++ remarked told.note))

-- the message of a fault of a text that is not too long
unfoldable pub fault_message : (file text : List ℕ) → ImageNames → ScriptFault → List ℕ
fault_message file text names (Memory _) = []
fault_message file text names (Bad number at a b) = spelled file text number at (told names text number at (b - a))

-- the message for a text that is no script
unfoldable pub script_message : (file text : List ℕ) (names : ImageNames) (fault : ScriptFault) → List ℕ
script_message file text names fault =
    if nat_lt 16777216 (length text) then long_message file else fault_message file text names fault

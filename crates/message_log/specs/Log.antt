-- The messages for a text that is no log of a program.
use Rattle.std.specs.Prelude.{ℕ, Bool, ◌++◌, ◌&&◌, not, List, [], ◌∷◌, Option, Some, None, length, bytes_eq, codes, find, map, nat_le, nat_lt, if◌then◌else◌}
use Rattle.std.specs.List.{list_all, list_any}
use Rattle.text_fields.specs.LineFields.{is_digit, is_numeral}
use Rattle.image.specs.declared.names.ImageNames.{ImageNames}
use Rattle.event_log.specs.declared.fault.LogFault.{LogFault}
use Rattle.event_log.specs.declared.fault.LogFault.TheVariants.{Line, Long, Memory}
use Rattle.message_text.specs.Lines.{has_return, is_ended, words}
use Rattle.message_text.specs.Words.{head, note, plain, quoted}
use Rattle.message_text.specs.Shown.{line, show}
use Rattle.message_text.specs.Nearest.{nearest}

-- the word of an event, and what stands behind it in a line
pub record Form : Type 0 where
  pub word : List ℕ
  pub behind : List ℕ

abbrev pub form : (word behind : List ℕ) → Form
form word behind = record { word = word; behind = behind }

-- the events: M is a monitor, C a condition, E an exception, D a device, V a value, Q a process or
-- a dash, and K a count
unfoldable pub forms : List Form
forms =
    form (codes "release") []
    ∷ form (codes "timeout") (codes " M C E")
    ∷ form (codes "get") (codes " D V")
    ∷ form (codes "put") (codes " D V")
    ∷ form (codes "enter") (codes " M")
    ∷ form (codes "leave") (codes " M")
    ∷ form (codes "wait") (codes " M C")
    ∷ form (codes "signal") (codes " M C Q")
    ∷ form (codes "broadcast") (codes " M C K")
    ∷ form (codes "empty") (codes " M C 0")
    ∷ form (codes "raise") (codes " E")
    ∷ form (codes "end") []
    ∷ []

abbrev pub event_words : List (List ℕ)
event_words = map (λ f. f.word) forms

-- a number from 0 to 999999999: up to nine digits, of which the first of more than one is no 0
unfoldable pub is_tick : List ℕ → Bool
is_tick word = list_all is_digit word && (is_numeral word && nat_le (length word) 9)

-- the nearest name
abbrev pub hint : Option (List ℕ) → List ℕ
hint None = []
hint (Some name) = codes "; the nearest is `" ++ (plain name ++ codes "`")

-- a word that is not what is wanted, and the nearest name
unfoldable pub unknown : (word what : List ℕ) (near : Option (List ℕ)) → List ℕ
unknown word what near = quoted word ++ (what ++ hint near)

-- what a line of this event looks like
abbrev pub form_reason : Form → List ℕ
form_reason f = codes "the form is `T P " ++ (f.word ++ (f.behind ++ codes "`, with names of the program"))

-- the third word, with the event that it tells
abbrev pub event_reason : (word : List ℕ) (told : Option Form) → List ℕ
event_reason word None = unknown word (codes " is no event") (nearest word event_words)
event_reason word (Some f) = form_reason f

unfoldable pub event_told : (word : List ℕ) → List ℕ
event_told word = event_reason word (find (λ f. bytes_eq f.word word) forms)

-- the second word, then the third
unfoldable pub process_reason : (processes : List (List ℕ)) (process event : List ℕ) → List ℕ
process_reason processes process event =
    if list_any (λ name. bytes_eq name process) processes then event_told event
    else unknown process (codes " is no process") (nearest process processes)

-- the first word, then the second
abbrev pub tick_reason : (processes : List (List ℕ)) (tick process event : List ℕ) → List ℕ
tick_reason processes tick process event =
    if is_tick tick then process_reason processes process event else unknown tick (codes " is no tick") None

-- the words of a line
abbrev pub words_reason : (processes : List (List ℕ)) → List (List ℕ) → List ℕ
words_reason processes (tick ∷ process ∷ event ∷ more) = tick_reason processes tick process event
words_reason processes few = codes "a line has a tick, a process and an event"

-- why a line is the text of no event, the first that applies
abbrev pub reason : (processes : List (List ℕ)) (shown : List ℕ) (is_ended : Bool) → List ℕ
reason processes shown is_ended =
    if not is_ended then codes "the last line has no line feed"
    else (if has_return shown then codes "a carriage return; lines end with a line feed alone" else words_reason processes (words shown))

-- a log that is too long
unfoldable pub long_message : (file : List ℕ) → List ℕ
long_message file = plain file ++ codes ": L2: the log has more than 67108864 bytes\n"

-- what is wrong with a line, and the line
abbrev pub told_line : (file text : List ℕ) (number : ℕ) (code sentence : List ℕ) → List ℕ
told_line file text number code sentence = head file number 1 code sentence ++ show text number 1 0

-- a line that is the text of no event
abbrev pub line_message : (file text : List ℕ) (processes : List (List ℕ)) (number : ℕ) → List ℕ
line_message file text processes number =
    told_line file text number (codes "L1") (codes "this line is the text of no event of the program")
    ++ note (reason processes (line text number) (is_ended text number))

-- a fault of a log that is not too long
abbrev pub fault_message : (file text : List ℕ) (names : ImageNames) (fault : LogFault) → List ℕ
fault_message file text names (Line number) = line_message file text names.processes number
fault_message file text names Long = long_message file
fault_message file text names (Memory _) = []

-- the message for a text that is no log of a program with these names
unfoldable pub log_message : (file text : List ℕ) (names : ImageNames) (fault : LogFault) → List ℕ
log_message file text names fault =
    if nat_lt 67108864 (length text) then long_message file else fault_message file text names fault

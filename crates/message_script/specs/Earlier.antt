-- A tick that falls, and an event that comes too soon: both with the earlier line.
use Rattle.std.specs.Prelude.{ℕ, ◌+◌, ◌-◌, ◌++◌, ◌&&◌, Bool, List, [], ◌∷◌, Option, Some, None, bytes_eq, codes, decimal, find, option_map, take, unwrap_or, if◌then◌else◌}
use Rattle.image.specs.declared.names.ImageNames.{ImageNames}
use Rattle.message_text.specs.Shown.{line, lines}
use Rattle.message_text.specs.Words.{plain, quoted}
use Rattle.message_script.specs.declared.telling.Told.{Told}
use Rattle.message_script.specs.declared.telling.Note.TheVariants.{Order, Frame}
use Rattle.message_script.specs.Numbers.{is_digits}
use Rattle.message_script.specs.Told.{at_word, with_line}
use Rattle.message_script.specs.Words.{Word, first_word, is_end, is_word, word_at}

-- a line with a tick before what it says
unfoldable pub has_tick : (bytes : List ℕ) → Bool
has_tick bytes = is_digits (first_word bytes).bytes

-- a line in which this event occurs
unfoldable pub occurs : (name bytes : List ℕ) → Bool
occurs name bytes = has_tick bytes && (is_word (word_at bytes 1) (codes "event") && is_word (word_at bytes 2) name)

-- the number of the last of these lines that is such, where the first has this number
unfoldable pub last_such : (is_such : List ℕ → Bool) (number : ℕ) (last : Option ℕ) → List (List ℕ) → Option ℕ
last_such is_such number last [] = last
last_such is_such number last (bytes ∷ more) = last_such is_such (number + 1) (if is_such bytes then Some number else last) more

-- the last line before this one that is such
unfoldable pub last_before : (is_such : List ℕ → Bool) (text : List ℕ) (number : ℕ) → Option ℕ
last_before is_such text number = last_such is_such 1 None (take (number - 1) (lines text))

-- ---- a tick below that of an earlier line

-- words and a number behind them
unfoldable pub counted : (words : List ℕ) (number : ℕ) → List ℕ
counted words number = words ++ decimal number

-- the tick of a line
unfoldable pub tick_word : (bytes : List ℕ) → Option Word
tick_word bytes = if is_end bytes then word_at bytes 1 else Some (first_word bytes)

unfoldable pub falls_by : (is_end : Bool) → List ℕ
falls_by is_end = if is_end then codes " is not above tick " else codes " is below tick "

unfoldable pub early_sentence : (is_end : Bool) (tick last : List ℕ) (earlier : ℕ) → List ℕ
early_sentence is_end tick last earlier =
    codes "tick " ++ (plain tick ++ (falls_by is_end ++ (plain last ++ counted (codes " of line ") earlier)))

unfoldable pub early_tick : (text : List ℕ) (is_end : Bool) → Word → (earlier : Option ℕ) → Option Told
early_tick text is_end tick None = None
early_tick text is_end tick (Some earlier) =
    Some (with_line earlier (at_word tick (early_sentence is_end tick.bytes (first_word (line text earlier)).bytes earlier) (Some Order)))

abbrev pub early_word : (text : List ℕ) (number : ℕ) (is_end : Bool) → Option Word → Option Told
early_word text number is_end None = None
early_word text number is_end (Some tick) = early_tick text is_end tick (last_before has_tick text number)

-- what is told of a line whose tick is too low
unfoldable pub early : (text : List ℕ) (number : ℕ) → Option Told
early text number = early_word text number (is_end (line text number)) (tick_word (line text number))

-- ---- an event less than a frame after its last occurrence

-- the frame of the event of this name
unfoldable pub frame_of : ImageNames → (name : List ℕ) → ℕ
frame_of names name = unwrap_or (option_map (λ e. e.frame) (find (λ e. bytes_eq e.name name) names.events)) 0

unfoldable pub soon_sentence : (name : List ℕ) (ticks earlier frame : ℕ) → List ℕ
soon_sentence name ticks earlier frame =
    quoted name ++ (counted (codes " comes ") ticks ++ (counted (codes " ticks after line ") earlier ++ (counted (codes "; its frame is ") frame ++ codes " ticks")))

unfoldable pub soon_event : ImageNames → (ticks : ℕ) (tick : Word) (name : List ℕ) (earlier : Option ℕ) → Option Told
soon_event names ticks tick name None = None
soon_event names ticks tick name (Some earlier) =
    Some (with_line earlier (at_word tick (soon_sentence name ticks earlier (frame_of names name)) (Some Frame)))

abbrev pub soon_word : ImageNames → (text : List ℕ) (number ticks : ℕ) (tick : Word) → (event : Option Word) → Option Told
soon_word names text number ticks tick None = None
soon_word names text number ticks tick (Some event) = soon_event names ticks tick event.bytes (last_before (occurs event.bytes) text number)

-- what is told of a line whose event comes so many ticks after its last occurrence
unfoldable pub soon : ImageNames → (text : List ℕ) (number ticks : ℕ) → Option Told
soon names text number ticks = soon_word names text number ticks (first_word (line text number)) (word_at (line text number) 2)

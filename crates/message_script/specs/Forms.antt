-- Why a line is in no form.
use Rattle.std.specs.Prelude.{ℕ, ◌+◌, ◌-◌, ◌==◌, ◌&&◌, ◌||◌, not, Bool, List, [], ◌∷◌, length, Option, Some, None, bytes_eq, codes, nat_lt, option_map, slice_index, if◌then◌else◌}
use Rattle.std.specs.List.{list_any}
use Rattle.text_fields.specs.LineFields.{is_digit}
use Rattle.message_text.specs.Lines.{return_place}
use Rattle.message_script.specs.declared.telling.Told.{Told}
use Rattle.message_script.specs.declared.telling.Note.{Note}
use Rattle.message_script.specs.declared.telling.Note.TheVariants.{Forms, EndForm, SetForm, EventForm, OneBlank, EndTheLine, LineFeedAlone, NoComments}
use Rattle.message_script.specs.declared.numbers.Sort.{Sort}
use Rattle.message_script.specs.declared.numbers.Sort.TheVariants.{End, Tick, Value}
use Rattle.message_script.specs.Numbers.{flaw_sentence, number_flaw}
use Rattle.message_script.specs.Told.{at_byte, at_word, behind, first, of_word, when}
use Rattle.message_script.specs.Words.{Word, begins, first_word, is_end, word_at}

-- ---- bytes that stand in no line

-- the first CR
unfoldable pub carriage_return : (bytes : List ℕ) → Option Told
carriage_return bytes = option_map (λ place. at_byte (place + 1) (codes "a carriage return") (Some LineFeedAlone)) (return_place bytes)

unfoldable pub are_blanks : (byte next : ℕ) → Bool
are_blanks byte next = byte == 32 && next == 32

-- what stands behind the first two blanks that are side by side
unfoldable pub behind_blanks : List ℕ → Option (List ℕ)
behind_blanks [] = None
behind_blanks (b ∷ []) = None
behind_blanks (b ∷ c ∷ more) = if are_blanks b c then Some more else behind_blanks (c ∷ more)

-- the second of two blanks before another word
abbrev pub blanks_before : (bytes : List ℕ) → Option (List ℕ) → Option Told
blanks_before bytes None = None
blanks_before bytes (Some more) =
    when (list_any (λ b. not (b == 32)) more) (at_byte (length bytes - length more) (codes "two blanks") (Some OneBlank))

-- ---- words of a form

-- a word that the form does not have
unfoldable pub surplus : Option Word → Note → Option Told
surplus None note = None
surplus (Some w) note = Some (of_word w (codes " is one word too many") (Some note))

unfoldable pub missing : (bytes : List ℕ) → Note → Option Told
missing bytes form = Some (behind bytes (codes "a word is missing") (Some form))

-- a number of a line
unfoldable pub number : Sort → Word → Option Told
number sort w = option_map (λ flaw. at_word w (flaw_sentence sort w.bytes flaw) None) (number_flaw sort w.bytes)

-- behind `end`: its tick
unfoldable pub behind_end : (bytes : List ℕ) → (tick more : Option Word) → Option Told
behind_end bytes None more = missing bytes EndForm
behind_end bytes (Some tick) more = first (number End tick ∷ surplus more EndForm ∷ [])

-- behind `set`: the device and its value
unfoldable pub behind_set : (bytes : List ℕ) → (value more : Option Word) → Option Told
behind_set bytes None more = missing bytes SetForm
behind_set bytes (Some value) more = first (number Value value ∷ surplus more SetForm ∷ [])

-- behind `event`: its name
unfoldable pub behind_event : (bytes : List ℕ) → (name more : Option Word) → Option Told
behind_event bytes None more = missing bytes EventForm
behind_event bytes (Some name) more = surplus more EventForm

-- behind a tick
unfoldable pub behind_tick : (bytes : List ℕ) → (command : Option Word) → Option Told
behind_tick bytes None = missing bytes Forms
behind_tick bytes (Some w) =
    if bytes_eq w.bytes (codes "set") then behind_set bytes (word_at bytes 3) (word_at bytes 4)
    else (if bytes_eq w.bytes (codes "event") then behind_event bytes (word_at bytes 2) (word_at bytes 3)
    else Some (of_word w (codes " is neither `set` nor `event`") (Some Forms)))

-- a word like those that begin a comment elsewhere
abbrev pub is_comment : List ℕ → Bool
is_comment word = begins 37 word || (begins 35 word || begins 47 word)

-- a first word without a digit
unfoldable pub no_beginning : Word → Option Told
no_beginning w =
    when (not (list_any is_digit w.bytes)) (of_word w (codes " begins no line") (Some (if is_comment w.bytes then NoComments else Forms)))

-- a line of a tick and what it says
unfoldable pub timed_flaw : (bytes : List ℕ) → Option Told
timed_flaw bytes = first (no_beginning (first_word bytes) ∷ number Tick (first_word bytes) ∷ behind_tick bytes (word_at bytes 1) ∷ [])

-- the words of a line
unfoldable pub words_flaw : (bytes : List ℕ) → Option Told
words_flaw bytes = if is_end bytes then behind_end bytes (word_at bytes 1) (word_at bytes 2) else timed_flaw bytes

-- ---- the line

-- the last byte is a blank
unfoldable pub ends_in_blank : (bytes : List ℕ) → Bool
ends_in_blank bytes = slice_index bytes (length bytes - 1) == 32

-- the blanks of a line
unfoldable pub blanks_flaw : (bytes : List ℕ) → Option Told
blanks_flaw bytes =
    first (when (begins 32 bytes) (at_byte 1 (codes "a blank at the start") None)
    ∷ blanks_before bytes (behind_blanks bytes)
    ∷ when (ends_in_blank bytes) (at_byte (length bytes) (codes "a blank at the end") None)
    ∷ [])

-- the bytes of a line, and whether an LF ends it
unfoldable pub bytes_flaw : (bytes : List ℕ) (is_ended : Bool) → Option Told
bytes_flaw bytes is_ended =
    first (when (not is_ended) (behind bytes (codes "the last line has no line feed") (Some EndTheLine))
    ∷ carriage_return bytes
    ∷ when (nat_lt (length bytes) 1) (at_byte 1 (codes "an empty line") (Some Forms))
    ∷ blanks_flaw bytes
    ∷ [])

-- what is wrong with a line by itself: the first that applies
unfoldable pub line_flaw : (bytes : List ℕ) (is_ended : Bool) → Option Told
line_flaw bytes is_ended = first (bytes_flaw bytes is_ended ∷ words_flaw bytes ∷ [])

-- A name that is no in device, or no event.
use Rattle.std.specs.Prelude.{ℕ, ◌+◌, ◌++◌, ◌&&◌, not, Bool, List, Option, Some, None, map, bytes_eq, codes, if◌then◌else◌}
use Rattle.std.specs.List.{filter, list_any}
use Rattle.image.specs.declared.names.ImageNames.{ImageNames}
use Rattle.image.specs.declared.names.DeviceName.{DeviceName}
use Rattle.message_text.specs.Lines.{return_place}
use Rattle.message_text.specs.Nearest.{hint, nearest}
use Rattle.message_text.specs.Words.{quoted}
use Rattle.message_script.specs.declared.telling.Told.{Told}
use Rattle.message_script.specs.declared.telling.Note.TheVariants.{LineFeedAlone}
use Rattle.message_script.specs.Told.{at_byte, at_word}
use Rattle.message_script.specs.Words.{Word, is_word, word_at}

-- the names among which the nearest is looked for, in their order
unfoldable pub in_devices : ImageNames → List (List ℕ)
in_devices names = map (λ d. d.name) (filter (λ d. not d.out) names.devices)

unfoldable pub events : ImageNames → List (List ℕ)
events names = map (λ e. e.name) names.events

abbrev pub known : ImageNames → (is_set : Bool) → List (List ℕ)
known names is_set = if is_set then in_devices names else events names

-- an out device has this name
abbrev pub is_out_device : (name : List ℕ) → DeviceName → Bool
is_out_device name device = bytes_eq device.name name && device.out

unfoldable pub is_out : ImageNames → (name : List ℕ) → Bool
is_out names name = list_any (is_out_device name) names.devices

-- what the name is not
unfoldable pub no_device : (is_out : Bool) → List ℕ
no_device is_out = if is_out then codes " is an `out` device; a script sets `in` devices" else codes " is no `in` device"

unfoldable pub no_such : ImageNames → (is_set : Bool) (name : List ℕ) → List ℕ
no_such names is_set name = if is_set then no_device (is_out names name) else codes " is no event"

unfoldable pub unknown_sentence : ImageNames → (is_set : Bool) (name : List ℕ) → List ℕ
unknown_sentence names is_set name = quoted name ++ (no_such names is_set name ++ hint (nearest name (known names is_set)))

-- a CR ends the name of a line that does not end with a line feed alone
abbrev pub unknown_name : ImageNames → (is_set : Bool) → Word → (place : Option ℕ) → Told
unknown_name names is_set w (Some place) = at_byte (w.column + place) (codes "a carriage return") (Some LineFeedAlone)
unknown_name names is_set w None = at_word w (unknown_sentence names is_set w.bytes) None

-- what is told of the third word
abbrev pub unknown_word : ImageNames → (is_set : Bool) → Option Word → Option Told
unknown_word names is_set None = None
unknown_word names is_set (Some w) = Some (unknown_name names is_set w (return_place w.bytes))

-- what is told of a line whose device or event is not known
unfoldable pub unknown : ImageNames → (bytes : List ℕ) → Option Told
unknown names bytes = unknown_word names (is_word (word_at bytes 1) (codes "set")) (word_at bytes 2)

-- What the reader keeps, and what it finds.
use Rattle.std.specs.Prelude.{◌≡◌, ◌&&◌, ◌==◌, not, Bool, ◌≤◌, ◌<◌, ℕ, List, [], ◌∷◌, length, Option, Some, None, All, codes, if◌then◌else◌, slice_index_or}
use Rattle.std.specs.Fmt.{signed_decimal}
use Rattle.std.specs.Borrow.{Bor}
use Rattle.text_fields.specs.Fields.{spaced}
use Rattle.image.specs.declared.names.ImageNames.{ImageNames}
use Rattle.image.specs.declared.names.DeviceName.{DeviceName}
use Rattle.image.specs.NameMaps.{number_in}
use Rattle.script.specs.declared.line.Line.{Line}
use Rattle.script.specs.declared.line.Line.TheVariants as line_is
use Rattle.script.specs.declared.script.ScriptLine.{ScriptLine}
use Rattle.script.specs.declared.script.ScriptLine.TheVariants.{Set, Occur}
use Rattle.script.specs.declared.reader.NextLine.{NextLine}
use Rattle.script.specs.declared.reader.NextLine.TheVariants as next_is
use Rattle.script.specs.Saying.{Said, set, event, end, IsInForm, spelled}
use Rattle.script.specs.Scripts.{same_name, meaning, tick_of, IsBegun}
use Rattle.script.specs.Faults.{last_tick, last_of, IsRight}

abbrev pub seen : Line → Said
seen (line_is.Set tick dev value) = set tick dev.now value
seen (line_is.Event tick name) = event tick name.now
seen (line_is.End tick) = end tick

-- a byte of a word
abbrev pub is_in_word : ℕ → Bool
is_in_word b = not (b == 32) && not (b == 10)

-- what stands behind the tick
abbrev pub behind : Said → List ℕ
behind (set tick dev value) = spaced (codes "set" ∷ dev ∷ signed_decimal value ∷ [])
behind (event tick name) = spaced (codes "event" ∷ name ∷ [])
behind (end tick) = []

-- it has this tick at its front
abbrev pub IsAt : ℕ → Said → Type 0
IsAt tick (set other dev value) = other ≡ tick
IsAt tick (event other name) = other ≡ tick
IsAt tick (end other) = ⊥

-- a line is behind its tick what is said
pub record IsTimed (tick : ℕ) (bytes : List ℕ) (said : Said) : Type 0 where
  pub at : IsAt tick said
  pub form : IsInForm said
  pub text : bytes ≡ behind said

-- a line without its LF says this
pub record Says (line : List ℕ) (said : Said) : Type 0 where
  pub form : IsInForm said
  pub text : line ≡ spelled said

abbrev pub or_else : Option ℕ → Option ℕ → Option ℕ
or_else None other = other
or_else (Some n) other = Some n

-- a name gets a number, unless it has one
abbrev pub AddsNumber : (old new : List (Bor (List ℕ) × ℕ)) → List ℕ → ℕ → Type 0
AddsNumber old new name number = (q : List ℕ) → number_in new q ≡ or_else (number_in old q) (if same_name q name then Some number else None)

-- an in device gets a number, unless its name has one
abbrev pub AddsDevice : (old new : List (Bor (List ℕ) × ℕ)) → DeviceName → ℕ → Type 0
AddsDevice old new device number = (q : List ℕ) → number_in new q ≡ or_else (number_in old q) (if same_name q device.name && not device.out then Some number else None)

abbrev pub AreNumbers : List (Bor (List ℕ) × ℕ) → (List ℕ → Option ℕ) → Type 0
AreNumbers entries numbers = (name : List ℕ) → number_in entries name ≡ numbers name

-- the tick is no later than this one
abbrev pub IsUpTo : Option ℕ → ℕ → Type 0
IsUpTo None tick = ⊥
IsUpTo (Some last) tick = tick ≤ last

-- an occurrence is no later than the last one of its event
abbrev pub IsUpToLast : List (Option ℕ) → ScriptLine → Type 0
IsUpToLast occurred (Set tick dev value) = Unit {0}
IsUpToLast occurred (Occur tick number) = IsUpTo (slice_index_or occurred number None) tick

-- the tick of the last line, and by event that of its last occurrence
pub record IsPast (names : ImageNames) (lines : List ScriptLine) (last : Option ℕ) (occurred : List (Option ℕ)) : Type 0 where
  pub count : length occurred ≡ length names.events
  pub last_is : last ≡ last_tick lines
  pub each : (number : ℕ) → number < length names.events → slice_index_or occurred number None ≡ last_of number lines
  pub up_to : All (λ line. IsUpTo last (tick_of line)) lines
  pub up_to_last : All (IsUpToLast occurred) lines

-- the first line of the bytes is right after these lines, and this is what it means
abbrev pub IsNext : ImageNames → List ScriptLine → List ℕ → NextLine → Type 0
IsNext names lines bytes (next_is.Line line rest) = (said : Said) × IsRight names lines bytes said rest.now × (meaning names said ≡ Some line)
IsNext names lines bytes (next_is.End tick rest) = IsRight names lines bytes (end tick) rest.now

-- up to the rest the text is these lines
pub record IsReadTo (names : ImageNames) (text : List ℕ) (lines : List ScriptLine) (rest : List ℕ) : Type 0 where
  pub said : List Said
  pub begun : IsBegun names text said lines rest

-- Scripts: lines of text, what they mean to the names of an image, and the frames that they
-- respect.
use Rattle.std.specs.Prelude.{◌≡◌, ◌≤◌, ◌<◌, ◌+◌, ℕ, Bool, not, ◌&&◌, List, [], ◌∷◌, ◌++◌, length, Option, Some, None, map, option_map, unwrap_or, slice_get, All, AllPairs, nat_eq}
use Rattle.std.specs.List.{position_from}
use Rattle.std.specs.Cmp.Lexicographic.{pointwise}
use Rattle.image.specs.declared.names.ImageNames.{ImageNames}
use Rattle.script.specs.declared.script.ScriptLine.{ScriptLine}
use Rattle.script.specs.declared.script.ScriptLine.TheVariants.{Set, Occur}
use Rattle.script.specs.Saying.{Said, set, event, end, IsInForm, text_of}

abbrev pub same_name : List ℕ → List ℕ → Bool
same_name = pointwise nat_eq

-- the number of the in device of this name, the first where there are more
abbrev pub in_device : ImageNames → List ℕ → Option ℕ
in_device names name = position_from (λ device. same_name name device.name && not device.out) 0 names.devices

-- the number of the event of this name
abbrev pub event_number : ImageNames → List ℕ → Option ℕ
event_number names name = position_from (λ e. same_name name e.name) 0 names.events

-- what a line means to these names, where it has a tick and its name is known
abbrev pub meaning : ImageNames → Said → Option ScriptLine
meaning names (set tick dev value) = option_map (λ number. Set tick number value) (in_device names dev)
meaning names (event tick name) = option_map (λ number. Occur tick number) (event_number names name)
meaning names (end tick) = None

abbrev pub tick_of : ScriptLine → ℕ
tick_of (Set tick dev value) = tick
tick_of (Occur tick number) = tick

-- the frame of the process that an event releases
abbrev pub frame_of : ImageNames → ℕ → ℕ
frame_of names number = unwrap_or (option_map (λ e. e.frame) (slice_get names.events number)) 0

-- the second is no earlier than the first
abbrev pub IsLater : ScriptLine → ScriptLine → Type 0
IsLater line next = tick_of line ≤ tick_of next

-- where both are occurrences of one event, they stand at least the frame of its process apart
abbrev pub IsApart : ImageNames → ScriptLine → ScriptLine → Type 0
IsApart names (Occur tick number) (Occur next other) = number ≡ other → tick + frame_of names number ≤ next
IsApart names line next = Unit {0}

-- the ticks do not descend, and the occurrences respect the frames
pub record Respects (names : ImageNames) (lines : List ScriptLine) : Type 0 where
  pub order : AllPairs IsLater lines
  pub frames : AllPairs (IsApart names) lines

-- the text begins with lines that say this, which mean these lines of a script that respects the
-- frames; then comes the rest
pub record IsBegun (names : ImageNames) (text : List ℕ) (said : List Said) (lines : List ScriptLine) (rest : List ℕ) : Type 0 where
  pub form : All IsInForm said
  pub whole : text ≡ text_of said ++ rest
  pub means : map (meaning names) said ≡ map (λ line. Some line) lines
  pub respects : Respects names lines

abbrev pub longest_text : ℕ
longest_text = 16777216

-- with the one that says the end
abbrev pub most_lines : ℕ
most_lines = 1000000

-- the text is that of a script with these lines, which ends before this tick
pub record IsScript (names : ImageNames) (text : List ℕ) (lines : List ScriptLine) (last : ℕ) : Type 0 where
  pub short : length text ≤ longest_text
  pub few : length lines + 1 ≤ most_lines
  pub said : List Said
  pub begun : IsBegun names text said lines (text_of (end last ∷ []))
  pub form : IsInForm (end last)
  pub above : All (λ line. tick_of line < last) lines

-- an occurrence is one of an event of these names
abbrev pub IsWithin : ImageNames → ScriptLine → Type 0
IsWithin names (Set tick dev value) = Unit {0}
IsWithin names (Occur tick number) = number < length names.events

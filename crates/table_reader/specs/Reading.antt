-- Process lines, as they are read word by word.
use Rattle.std.specs.Prelude.{ℕ, List, [], ◌∷◌, Option, Some, None, option_map, option_and_then, map, codes, if◌then◌else◌}
use Rattle.std.specs.Borrow.{Bor}
use Rattle.table_format.specs.Spelling.{Word, SaidStay, SaidLine}
use Rattle.table_format.specs.Rules.{same_name}
use Rattle.table_reader.specs.declared.line.StayWords.{StayWords}
use Rattle.table_reader.specs.declared.line.HeadWords.{HeadWords}
use Rattle.table_reader.specs.declared.line.LineWords.{LineWords}
use Rattle.table_reader.specs.declared.line.LineFront.{LineFront}
use Rattle.table_reader.specs.declared.line.NextStay.{NextStay}
use Rattle.table_reader.specs.Words.{left, split, first_word, after_key, optional}

-- ---- what the words that were read say

abbrev pub bytes_of : Option (Bor (List ℕ)) → Option Word
bytes_of word = option_map (λ w. w.now) word

-- what stands behind each reference
abbrev pub seen : {A : Type 0} → List (Bor A) → List A
seen xs = map (λ x. x.now) xs

abbrev pub stay_of : StayWords → SaidStay
stay_of s = record { monitor = s.monitor.now; ticks = s.ticks.now }

abbrev pub said_with : HeadWords → List SaidStay → SaidLine
said_with h stays = record {
  name = h.name.now;
  event = bytes_of h.event;
  frame = h.frame.now;
  deadline = bytes_of h.deadline;
  first = bytes_of h.first;
  cost = h.cost.now;
  stays = stays;
}

abbrev pub line_seen : LineWords → SaidLine
line_seen line = said_with line.head (map stay_of line.stays.items)

abbrev pub head_seen : LineFront → SaidLine × List Word
head_seen front = (said_with front.head [], left front.words.rest)

abbrev pub stay_seen : NextStay → SaidStay × List Word
stay_seen next = (stay_of next.stay, left next.words.rest)

-- ---- what is read

abbrev pub with_cost : (name : Word) → (event : Option Word) → (frame : Word) → (deadline first : Option Word) → Word × List Word → SaidLine × List Word
with_cost name event frame deadline first cost =
    (record { name = name; event = event; frame = frame; deadline = deadline; first = first; cost = cost.0; stays = [] }, cost.1)

-- frame T [deadline D] [first N] cost C
abbrev pub times_read : (name : Word) → (event : Option Word) → Word × List Word → Option (SaidLine × List Word)
times_read name event frame =
    let deadline = optional (codes "deadline") frame.1 in
    let first = optional (codes "first") deadline.1 in
    option_map (with_cost name event frame.0 deadline.0 first.0) (after_key (codes "cost") first.1)

-- [event E] frame T ..
abbrev pub event_read : Word × List Word → Option (SaidLine × List Word)
event_read name = let event = optional (codes "event") name.1 in option_and_then (times_read name.0 event.0) (after_key (codes "frame") event.1)

-- process P ..
abbrev pub head_read : List Word → Option (SaidLine × List Word)
head_read words = option_and_then event_read (after_key (codes "process") words)

-- stay M S
abbrev pub ticks_of : Word × List Word → Option (Word × List Word) → Option (SaidStay × List Word)
ticks_of monitor ticks = option_map (λ found. (record { monitor = monitor.0; ticks = found.0 }, found.1)) ticks

abbrev pub stay_read : List Word → Option (SaidStay × List Word)
stay_read words = option_and_then (λ monitor. ticks_of monitor (first_word monitor.1)) (after_key (codes "stay") words)

-- {stay M S}
abbrev pub stays_read : List Word → Option (List SaidStay)
stays_read [] = Some []
stays_read (key ∷ []) = None
stays_read (key ∷ monitor ∷ []) = None
stays_read (key ∷ monitor ∷ ticks ∷ words) =
    if same_name key (codes "stay") then option_map (λ more. record { monitor = monitor; ticks = ticks } ∷ more) (stays_read words) else None

-- the whole line, without its LF
unfoldable pub line_read : List ℕ → Option SaidLine
line_read line = option_and_then (λ front. option_map (λ stays. record front.0 { stays = stays }) (stays_read front.1)) (head_read (split line))

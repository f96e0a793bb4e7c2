-- What may stand in a line of a task table, word by word.
use Rattle.std.specs.Prelude.{ℕ, Bool, true, false, List, [], ◌∷◌, ◌++◌, Option, Some, None, bytes_eq, codes, find, map, ◌==◌, if◌then◌else◌}
use Rattle.message_table.specs.declared.part.Part.{Part}
use Rattle.message_table.specs.declared.part.Part.TheVariants.{FirstLine, OtherLine, Table, End, Process, Event, Frame, EventFrame, Deadline, EventDeadline, First, Cost, Stay}
use Rattle.message_table.specs.declared.part.Wanted.{Wanted}
use Rattle.message_table.specs.declared.part.Wanted.TheVariants as wanted
use Rattle.message_table.specs.declared.part.Role.{Role}
use Rattle.message_table.specs.declared.part.Role.TheVariants as role
use Rattle.message_text.specs.Either.{either}
use Rattle.table_format.specs.Faults.{is_numeral}

-- ---- the parts of a line

-- the word that a part begins with
abbrev pub key : Part → List ℕ
key FirstLine = []
key OtherLine = []
key Table = codes "table"
key End = codes "end"
key Process = codes "process"
key Event = codes "event"
key Frame = codes "frame"
key EventFrame = codes "frame"
key Deadline = codes "deadline"
key EventDeadline = codes "deadline"
key First = codes "first"
key Cost = codes "cost"
key Stay = codes "stay"

-- the parts that may stand behind a part
abbrev pub follows : Part → List Part
follows FirstLine = Table ∷ []
follows OtherLine = Process ∷ End ∷ []
follows Table = []
follows End = []
follows Process = Event ∷ Frame ∷ []
follows Event = EventFrame ∷ []
follows Frame = Deadline ∷ First ∷ Cost ∷ []
follows EventFrame = EventDeadline ∷ Cost ∷ []
follows Deadline = First ∷ Cost ∷ []
follows EventDeadline = Cost ∷ []
follows First = Cost ∷ []
follows Cost = Stay ∷ []
follows Stay = Stay ∷ []

-- whether a line may end behind a part
abbrev pub may_end : Part → Bool
may_end Table = true
may_end End = true
may_end Cost = true
may_end Stay = true
may_end part = false

-- whether the part is a stay
abbrev pub is_stay : Part → Bool
is_stay Stay = true
is_stay part = false

-- ---- what is wanted at a place

-- behind the key of a part
abbrev pub behind_key : Part → Wanted
behind_key FirstLine = wanted.Key FirstLine
behind_key OtherLine = wanted.Key OtherLine
behind_key Table = wanted.Name Table
behind_key End = wanted.Key End
behind_key Process = wanted.Name Process
behind_key Event = wanted.Name Event
behind_key Frame = wanted.Ticks Frame
behind_key EventFrame = wanted.Ticks EventFrame
behind_key Deadline = wanted.Ticks Deadline
behind_key EventDeadline = wanted.Ticks EventDeadline
behind_key First = wanted.Ticks First
behind_key Cost = wanted.Ticks Cost
behind_key Stay = wanted.Name Stay

-- behind the name in a part: a stay has ticks too
abbrev pub behind_name : Part → Wanted
behind_name Stay = wanted.Ticks Stay
behind_name part = wanted.Key part

-- at the first place of a line
abbrev pub at_first : (number : ℕ) → Wanted
at_first number = wanted.Key (if number == 1 then FirstLine else OtherLine)

-- ---- what a word is

abbrev pub key_role : (behind : Part) → Option Part → Role
key_role behind None = role.NoKey behind
key_role behind (Some part) = role.Key part

-- a word at a place where this is wanted; any word may stand in the place of a name
abbrev pub role_of : Wanted → (word : List ℕ) → Role
role_of (wanted.Key behind) word = key_role behind (find (λ part. bytes_eq (key part) word) (follows behind))
role_of (wanted.Name part) word = role.Name part
role_of (wanted.Ticks part) word = if is_numeral word then role.Ticks part else role.NoTicks part

-- what is wanted behind such a word; behind one that cannot stand there, what was wanted
abbrev pub behind : Role → Wanted
behind (role.Key part) = behind_key part
behind (role.Name part) = behind_name part
behind (role.Ticks part) = wanted.Key part
behind (role.NoKey part) = wanted.Key part
behind (role.NoTicks part) = wanted.Ticks part

-- the part that a word belongs to
abbrev pub part_of : Role → Part
part_of (role.Key of) = of
part_of (role.Name of) = of
part_of (role.Ticks of) = of
part_of (role.NoKey of) = of
part_of (role.NoTicks of) = of

-- whether a line may end where this is wanted
abbrev pub is_whole : Wanted → Bool
is_whole (wanted.Key part) = may_end part
is_whole (wanted.Name part) = false
is_whole (wanted.Ticks part) = false

-- ---- what is told of it

-- a key between backquotes
abbrev pub quoted_key : Part → List ℕ
quoted_key part = codes "`" ++ (key part ++ codes "`")

-- what a line may have at its end
abbrev pub line_end : Bool → List (List ℕ)
line_end true = codes "the end of the line" ∷ []
line_end false = []

-- what may stand behind a part
abbrev pub choice : Part → List ℕ
choice part = either (map quoted_key (follows part) ++ line_end (may_end part))

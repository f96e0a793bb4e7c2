-- Ticks that are outside their range, or that cannot be met.
use Rattle.std.specs.Prelude.{ℕ, ◌+◌, Bool, true, false, ◌&&◌, ◌||◌, List, [], ◌∷◌, Option, Some, None, find, min, nat_lt, option_map, sum_by, ◌==◌, if◌then◌else◌}
use Rattle.std.specs.List.{list_any}
use Rattle.std.specs.Option.{option_map_or, option_or}
use Rattle.text_fields.specs.LineFields.{value}
use Rattle.message_table.specs.Found.{found_at, ticks_fault}
use Rattle.message_table.specs.Marks.{Mark}
use Rattle.message_table.specs.Parts.{is_stay, part_of}
use Rattle.message_table.specs.declared.fault.Found.{Found}
use Rattle.message_table.specs.declared.fault.TicksFault.{TicksFault}
use Rattle.message_table.specs.declared.fault.TicksFault.TheVariants as wrong
use Rattle.message_table.specs.declared.part.Part.{Part}
use Rattle.message_table.specs.declared.part.Part.TheVariants.{FirstLine, OtherLine, Table, End, Process, Event, Frame, EventFrame, Deadline, EventDeadline, First, Cost, Stay}
use Rattle.message_table.specs.declared.part.Role.{Role}
use Rattle.message_table.specs.declared.part.Role.TheVariants as role

-- ---- ticks

-- the number that a word spells, and 1,000,000,001 for each larger one
abbrev pub ticks : (word : List ℕ) → ℕ
ticks word = min (value word) 1000000001

-- whether a word is the ticks of a part
abbrev pub is_ticks : Role → Bool
is_ticks (role.Ticks of) = true
is_ticks (role.Key of) = false
is_ticks (role.Name of) = false
is_ticks (role.NoKey of) = false
is_ticks (role.NoTicks of) = false

-- ---- ranges

-- the least ticks of a part
abbrev pub least : Part → ℕ
least Frame = 10
least EventFrame = 10
least Deadline = 10
least EventDeadline = 10
least Cost = 4
least Stay = 3
least part = 0

-- the most ticks of a part: of a deadline the frame
abbrev pub most : Part → (frame : ℕ) → ℕ
most Deadline frame = frame
most EventDeadline frame = frame
most part frame = 1000000000

abbrev pub is_out : (frame : ℕ) → Part → (word : List ℕ) → Bool
is_out frame part word = nat_lt (ticks word) (least part) || nat_lt (most part frame) (ticks word)

-- whether a word is ticks outside the range of their part
abbrev pub is_out_of_range : (frame : ℕ) → Mark → Bool
is_out_of_range frame mark = is_ticks mark.role && is_out frame (part_of mark.role) mark.word

abbrev pub is_frame_part : Part → Bool
is_frame_part Frame = true
is_frame_part EventFrame = true
is_frame_part part = false

abbrev pub is_cost_part : Part → Bool
is_cost_part Cost = true
is_cost_part part = false

-- whether a word is the frame of a line
abbrev pub is_frame : Mark → Bool
is_frame mark = is_ticks mark.role && is_frame_part (part_of mark.role)

-- the frame of a line, 0 where it has none
abbrev pub frame_of : List Mark → ℕ
frame_of marks = option_map_or (λ mark. ticks mark.word) (find is_frame marks) 0

abbrev pub out_of_range : (frame : ℕ) → Mark → Found
out_of_range frame mark = found_at mark (ticks_fault (wrong.OutOfRange (part_of mark.role) frame))

-- the first ticks of a line that are outside their range
abbrev pub range_found : List Mark → Option Found
range_found marks = option_map (out_of_range (frame_of marks)) (find (is_out_of_range (frame_of marks)) marks)

-- ---- stays and costs

-- whether a word is the ticks of a stay
abbrev pub is_stay_ticks : Mark → Bool
is_stay_ticks mark = is_ticks mark.role && is_stay (part_of mark.role)

-- what a stay costs: 15 ticks beside its own
abbrev pub stay_cost : Mark → ℕ
stay_cost mark = if is_stay_ticks mark then 15 + ticks mark.word else 0

-- the least cost of a line: 4 ticks end its activation
abbrev pub least_cost : List Mark → ℕ
least_cost marks = 4 + sum_by stay_cost marks

-- a stay is 3 ticks and those of its statements, which are none, or 3 or more
abbrev pub four_or_five : ℕ → Bool
four_or_five n = n == 4 || n == 5

-- whether a word is such a stay
abbrev pub is_unmet_stay : Mark → Bool
is_unmet_stay mark = is_stay_ticks mark && four_or_five (ticks mark.word)

-- whether a word is the cost of a line
abbrev pub is_cost : Mark → Bool
is_cost mark = is_ticks mark.role && is_cost_part (part_of mark.role)

abbrev pub unmet_stay : Mark → Found
unmet_stay mark = found_at mark (ticks_fault wrong.Stay)

-- a cost, in a line with or without stays
abbrev pub cost_fault : List Mark → TicksFault
cost_fault marks = if list_any is_stay_ticks marks then wrong.CostWithStays (least_cost marks) (least_cost marks + 3) else wrong.Cost

abbrev pub unmet_cost : List Mark → Mark → Found
unmet_cost marks mark = found_at mark (ticks_fault (cost_fault marks))

-- the first such stay, else the cost
abbrev pub unmet_found : List Mark → Option Found
unmet_found marks = option_or (option_map unmet_stay (find is_unmet_stay marks)) (option_map (unmet_cost marks) (find is_cost marks))

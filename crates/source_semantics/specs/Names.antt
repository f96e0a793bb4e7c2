-- What a name stands for in a program: its declaration, or its number among those of its kind.
use Rattle.std.specs.Prelude.{ℕ, zero, suc, ◌+◌, Bool, true, false, cond, List, [], ◌∷◌, Option, Some, None, ℤ, pos, neg_ℤ, length, map, find, filter_map, bytes_eq, option_map, unwrap_or, sum_by}
use Rattle.syntax_tree.specs.Plain.{Name, Constant, literal_constant, named_constant, Var, Routine, Member, variable_member, condition_member, Monitor, Trigger, periodic, at_event, Process, Declaration, constant, device, event, routine, monitor, process, Program}

-- the thing of that name in a list of things
abbrev pub named : {A : Type 0} → (A → Name) → Name → List A → Option A
named name_of n xs = find (λ x. bytes_eq (name_of x) n) xs

-- the place of a name in a list of names
abbrev pub place_of : Name → List Name → ℕ
place_of n [] = 0
place_of n (m ∷ ms) = cond (bytes_eq m n) 0 (suc (place_of n ms))

abbrev pub signed : Bool → ℤ → ℤ
signed true v = neg_ℤ v
signed false v = v

-- the value of a name among the constants, 0 where there is none
abbrev pub value_among : List (Name × ℤ) → Name → ℤ
value_among known n = unwrap_or (option_map (λ k. k.1) (named (λ k. k.0) n known)) (pos 0)

abbrev pub constant_among : List (Name × ℤ) → Constant → ℤ
constant_among known (literal_constant minus n) = signed minus (pos n)
constant_among known (named_constant minus x) = signed minus (value_among known x)

-- the constants of a program with their values; each uses those before it
abbrev pub constants_from : List (Name × ℤ) → List Declaration → List (Name × ℤ)
constants_from known [] = known
constants_from known (constant n c ∷ ds) = constants_from ((n, constant_among known c) ∷ known) ds
constants_from known (_ ∷ ds) = constants_from known ds

abbrev pub constants : Program → List (Name × ℤ)
constants g = constants_from [] g.decls

abbrev pub constant_value : Program → Constant → ℤ
constant_value g c = constant_among (constants g) c

-- a constant that is used as a number of ticks or turns or as an exception number
abbrev pub as_count : ℤ → ℕ
as_count (pos n) = n
as_count _ = 0

abbrev pub count_value : Program → Constant → ℕ
count_value g c = as_count (constant_value g c)

abbrev pub device_in : Declaration → Option Name
device_in (device n is_out) = Some n
device_in _ = None

abbrev pub event_in : Declaration → Option Name
event_in (event n) = Some n
event_in _ = None

abbrev pub routine_in : Declaration → Option Routine
routine_in (routine r) = Some r
routine_in _ = None

abbrev pub monitor_in : Declaration → Option Monitor
monitor_in (monitor m) = Some m
monitor_in _ = None

abbrev pub process_in : Declaration → Option Process
process_in (process p) = Some p
process_in _ = None

abbrev pub routines : Program → List Routine
routines g = filter_map routine_in g.decls

abbrev pub monitors : Program → List Monitor
monitors g = filter_map monitor_in g.decls

abbrev pub processes : Program → List Process
processes g = filter_map process_in g.decls

abbrev pub device_number : Program → Name → ℕ
device_number g n = place_of n (filter_map device_in g.decls)

abbrev pub event_number : Program → Name → ℕ
event_number g n = place_of n (filter_map event_in g.decls)

abbrev pub monitor_number : Program → Name → ℕ
monitor_number g n = place_of n (map (λ m. m.name) (monitors g))

abbrev pub variable_in : Member → Option Var
variable_in (variable_member v) = Some v
variable_in _ = None

abbrev pub condition_in : Member → Option Name
condition_in (condition_member c) = Some c
condition_in _ = None

abbrev pub conditions_of : Monitor → List Name
conditions_of m = filter_map condition_in m.members

abbrev pub condition_count : List Monitor → ℕ
condition_count ms = sum_by (λ m. length (conditions_of m)) ms

-- the conditions are counted through all monitors; a condition is named in its own alone
abbrev pub condition_from : ℕ → ℕ → Name → List Monitor → ℕ
condition_from before m n [] = before
condition_from before zero n (k ∷ ks) = before + place_of n (conditions_of k)
condition_from before (suc m) n (k ∷ ks) = condition_from (before + length (conditions_of k)) m n ks

abbrev pub condition_number : Program → ℕ → Name → ℕ
condition_number g m n = condition_from 0 m n (monitors g)

-- how many routines and entries there are: calls are nested at most so deep, since no routine
-- reaches itself
abbrev pub routines_in : Declaration → ℕ
routines_in (routine r) = 1
routines_in (monitor m) = length m.entries
routines_in (process p) = length p.routines
routines_in _ = 0

abbrev pub routine_count : Program → ℕ
routine_count g = sum_by routines_in g.decls

abbrev pub frame_of : Program → Trigger → ℕ
frame_of g (periodic frame deadline first) = count_value g frame
frame_of g (at_event e frame deadline) = count_value g frame

-- the frame where no deadline is told
abbrev pub deadline_or : Program → ℕ → Option Constant → ℕ
deadline_or g frame None = frame
deadline_or g frame (Some d) = count_value g d

-- an activation has to end within so many ticks
abbrev pub deadline_of : Program → Trigger → ℕ
deadline_of g (periodic frame deadline first) = deadline_or g (count_value g frame) deadline
deadline_of g (at_event e frame deadline) = deadline_or g (count_value g frame) deadline

-- The rules for frames, events and the numbers of handlers.
use Rattle.std.specs.Prelude.{ℕ, suc, Bool, false, ◌||◌, ◌&&◌, int_le, pos, List, [], ◌∷◌, ◌++◌, Option, Some, None, ℤ, nat_eq, if◌then◌else◌}
use Rattle.base.specs.Words.{same}
use Rattle.syntax_tree.specs.Placed.{Constant, Activation, periodic, at_event, Handler, Process}
use Rattle.syntax_tree.specs.declared.place.Place.{Place}
use Rattle.syntax_tree.specs.Parts.{same_place}
use Rattle.static_declarations.specs.Values.{Worth, constant_place, is_within, out_of}

-- ---- frames

abbrev pub frame_of : Activation Place → Constant Place
frame_of (periodic frame deadline start) = frame
frame_of (at_event name q frame deadline) = frame

-- a frame is outside 10 .. 1,000,000,000
abbrev pub bad_frame : Worth → Process Place → Option Place
bad_frame worth p = out_of worth 10 1000000000 (frame_of p.activation)

abbrev pub deadline_of : Activation Place → Option (Constant Place)
deadline_of (periodic frame deadline start) = deadline
deadline_of (at_event name q frame deadline) = deadline

abbrev pub bad_limit : Worth → Constant Place → Option (Constant Place) → Option Place
bad_limit worth frame None = None
bad_limit worth frame (Some d) = if int_le (pos 10) (worth d) && int_le (worth d) (worth frame) then None else Some (constant_place d)

-- a deadline is below 10 or above its frame
abbrev pub bad_deadline : Worth → Process Place → Option Place
bad_deadline worth p = bad_limit worth (frame_of p.activation) (deadline_of p.activation)

abbrev pub bad_start : Worth → Activation Place → Option Place
bad_start worth (periodic frame deadline (Some start)) = out_of worth 0 1000000000 start
bad_start worth _ = None

-- a first activation is outside 0 .. 1,000,000,000
abbrev pub bad_first : Worth → Process Place → Option Place
bad_first worth p = bad_start worth p.activation

-- ---- events

abbrev pub is_at : Place → Option Place → Bool
is_at place None = false
is_at place (Some p) = same_place p place

-- the process is activated by the event whose name is declared at the place
abbrev pub is_activated_by : (Place → Option Place) → Place → Activation Place → Bool
is_activated_by declared e (periodic frame deadline start) = false
is_activated_by declared e (at_event name q frame deadline) = is_at e (declared q)

-- how many of the processes are activated by the event
abbrev pub users : (Place → Option Place) → Place → List (Process Place) → ℕ
users declared e [] = 0
users declared e (p ∷ ps) = if is_activated_by declared e p.activation then suc (users declared e ps) else users declared e ps

-- an event is not used by exactly one process
abbrev pub misused_event : (Place → Option Place) → List (Process Place) → Place → Option Place
misused_event declared ps e = if nat_eq (users declared e ps) 1 then None else Some e

-- ---- the numbers of a handler

-- a number of a handler, and those before it
pub record Handled : Type 0 where
  pub before : List (Constant Place)
  pub number : Constant Place

abbrev pub handled : List (Constant Place) → List (Constant Place) → List Handled → List Handled
handled before [] more = more
handled before (c ∷ cs) more = record { before = before; number = c } ∷ handled (before ++ c ∷ []) cs more

abbrev pub handler_numbers : Option (Handler Place) → List Handled → List Handled
handler_numbers None more = more
handler_numbers (Some h) more = handled [] h.numbers more

-- the numbers of all handlers
abbrev pub all_handled : List (Process Place) → List Handled
all_handled [] = []
all_handled (p ∷ ps) = handler_numbers p.handler (all_handled ps)

-- a handler's number is in neither 1 .. 4 nor 10 .. 999
abbrev pub bad_handled : Worth → Handled → Option Place
bad_handled worth h = if is_within 1 4 (worth h.number) || is_within 10 999 (worth h.number) then None else Some (constant_place h.number)

abbrev pub has_value : Worth → ℤ → List (Constant Place) → Bool
has_value worth v [] = false
has_value worth v (c ∷ cs) = same (worth c) v || has_value worth v cs

-- a handler lists a number twice
abbrev pub repeated : Worth → Handled → Option Place
repeated worth h = if has_value worth (worth h.number) h.before then Some (constant_place h.number) else None

-- The conditions of a monitor, and the frames of events, by the list of the events that release
-- processes.
use Rattle.std.specs.Prelude.{ℕ, List, Option, Some, None, filter_map, map, unwrap_or}
use Rattle.syntax_tree.specs.Plain.{Name, Member, Trigger, periodic, at_event, Process, Declaration, Program}
use Rattle.source_semantics.specs.Names.{condition_in, event_in, count_value}
use Rattle.code_names.specs.First.{index_of}
use Rattle.code_names.proofs.NameListTable.{get_some}
use Rattle.image.specs.declared.names.ConditionName.{ConditionName}
use Rattle.image.specs.declared.names.EventName.{EventName}

-- the conditions among the members of a monitor, with its number
abbrev pub conditions_named : ℕ → List Member → List ConditionName
conditions_named m members = map (λ c. record { name = c; mon = m }) (filter_map condition_in members)

-- ---- the events that release processes, in the order of the processes

abbrev pub released_by : Trigger → Option Name
released_by (periodic frame deadline first) = None
released_by (at_event e frame deadline) = Some e

-- the frame of what an event releases
abbrev pub frame_at_event : Program → Trigger → Option ℕ
frame_at_event g (periodic frame deadline first) = None
frame_at_event g (at_event e frame deadline) = Some (count_value g frame)

abbrev pub released_events : List Process → List Name
released_events ps = filter_map (λ p. released_by p.activation) ps

abbrev pub released_frames : Program → List Process → List ℕ
released_frames g ps = filter_map (λ p. frame_at_event g p.activation) ps

-- the frame at an index that is perhaps there, 0 where there is none
abbrev pub frame_found : List ℕ → Option ℕ → ℕ
frame_found frames index = unwrap_or (get_some frames index) 0

-- an event, where the frames of these events are known
abbrev pub event_found : List ℕ → List Name → Name → EventName
event_found frames events e = record { name = e; frame = frame_found frames (index_of e events) }

abbrev pub events_found : List ℕ → List Name → List Declaration → List EventName
events_found frames events ds = map (event_found frames events) (filter_map event_in ds)

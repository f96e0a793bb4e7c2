-- How the processes of a program are released, by number, and the start events that are due by
-- that.
use Rattle.std.specs.Prelude.{◌≡◌, ℕ, suc, ◌+◌, ◌-◌, ◌%◌, ◌≤◌, ◌<◌, Bool, false, cond, ◌&&◌, List, [], ◌∷◌, ◌++◌, Option, Some, None, nat_eq, nat_le, map, slice_get, flat_map, All}
use Rattle.base.specs.declared.event.Event.{Event}
use Rattle.base.specs.declared.event.Act.TheVariants as act
use Rattle.syntax_tree.specs.Plain.{Trigger, periodic, at_event, Program}
use Rattle.source_semantics.specs.Names.{processes, event_number, count_value}
use Rattle.source_semantics.specs.Config.{Job}
use Rattle.source_semantics.specs.Ranks.{by_rank}
use Rattle.source_semantics.specs.Starts.{first_of, release_missing, release_of, time_out}
use Rattle.script.specs.declared.script.ScriptLine.{ScriptLine}
use Rattle.script.specs.declared.script.ScriptLine.TheVariants as line_is
use Rattle.replay_due_events.specs.declared.timetable.Timing.{Timing}
use Rattle.replay_due_events.specs.declared.timetable.Timing.TheVariants as timing_is
use Rattle.replay_due_events.specs.declared.timetable.Timetable.{Timetable}
use Rattle.replay_due_events.specs.declared.due_starts.Start.{Start}
use Rattle.replay_due_events.specs.declared.due_starts.Start.TheVariants as start_is

-- how an activation is released
abbrev pub timing_of : Program → Trigger → Timing
timing_of g (periodic frame deadline first) = timing_is.Periodic (count_value g frame) (first_of g first)
timing_of g (at_event e frame deadline) = timing_is.AtEvent (event_number g e)

abbrev pub timings : Program → List Timing
timings g = map (λ p. timing_of g p.activation) (processes g)

pub record IsTimetableOf (g : Program) (t : Timetable) : Type 0 where
  pub timings : t.timings.items ≡ timings g
  pub by_rank : t.by_rank.items ≡ by_rank g

abbrev pub FrameCounts : Timing → Type 0
FrameCounts (timing_is.Periodic frame first) = 0 < frame
FrameCounts (timing_is.AtEvent e) = Unit {0}

-- no frame is 0
abbrev pub FramesCount : List Timing → Type 0
FramesCount ts = All FrameCounts ts

-- a start event, at a tick
abbrev pub event_of : ℕ → Start → Event
event_of t (start_is.Release k) = release_of t k
event_of t (start_is.TimeOut k x n) = record { tick = t; proc = k; act = act.TimeOut x n }

abbrev pub first_in : List Event → Option Event
first_in [] = None
first_in (e ∷ es) = Some e

-- the event releases the process
abbrev pub is_at : ℕ → Timing → Bool
is_at e (timing_is.Periodic frame first) = false
is_at e (timing_is.AtEvent own) = nat_eq own e

-- the clock releases the process at the tick
abbrev pub is_clocked : ℕ → Timing → Bool
is_clocked t (timing_is.Periodic frame first) = nat_le first t && nat_eq ((t - first) % frame) 0
is_clocked t (timing_is.AtEvent own) = false

-- from one tick on and before the other the clock releases nobody
abbrev pub IsClockFree : List Timing → (from until : ℕ) → Type 0
IsClockFree ts from until = (u k : ℕ) (x : Timing) → from ≤ u → u < until → slice_get ts k ≡ Some x → is_clocked u x ≡ false

-- the releases by an event that have not come, of the processes from number k on
abbrev pub released_by : List Job → ℕ → ℕ → ℕ → List Timing → List Event
released_by js t e k [] = []
released_by js t e k (x ∷ xs) = cond (is_at e x) (release_missing t k (slice_get js k)) [] ++ released_by js t e (suc k) xs

-- the releases by the events of a tick
abbrev pub released_in : List Job → List Timing → ℕ → List ScriptLine → List Event
released_in js xs t [] = []
released_in js xs t (line_is.Set u d v ∷ ls) = released_in js xs t ls
released_in js xs t (line_is.Occur u e ∷ ls) = cond (nat_eq u t) (released_by js t e 0 xs) [] ++ released_in js xs t ls

-- the periodic releases at a tick
abbrev pub clocked : List Job → ℕ → ℕ → List Timing → List Event
clocked js t k [] = []
clocked js t k (x ∷ xs) = cond (is_clocked t x) (release_missing t k (slice_get js k)) [] ++ clocked js t (suc k) xs

-- the time-outs at a tick, in this order of processes
abbrev pub expired : List Job → ℕ → List ℕ → List Event
expired js t ks = flat_map (λ k. time_out t k (slice_get js k)) ks

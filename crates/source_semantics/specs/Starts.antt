-- Scripts, and the start events that are due at a tick: releases and time-outs.
use Rattle.std.specs.Prelude.{◌≡◌, ℕ, suc, ◌+◌, ◌-◌, ◌%◌, ◌≤◌, ◌<◌, Bool, false, cond, ◌&&◌, List, [], ◌∷◌, ◌++◌, Option, Some, None, ℤ, pos, nat_eq, nat_le, slice_get, flat_map}
use Rattle.base.specs.declared.event.Event.{Event}
use Rattle.base.specs.declared.event.Act.TheVariants as act
use Rattle.syntax_tree.specs.Plain.{Trigger, periodic, at_event, Process, Program, Constant}
use Rattle.source_semantics.specs.Names.{processes, event_number, count_value}
use Rattle.source_semantics.specs.Config.{Doing, idle, active, waiting, Job, Config}
use Rattle.source_semantics.specs.Ranks.{by_rank}

-- a line of a script: a device's value from a tick on, or an event
pub data Line : Type 0 where
  sets : (tick dev : ℕ) → ℤ → Line
  occurs : (tick event : ℕ) → Line

-- the lines in the script's order, and its end
pub record Script : Type 0 where
  pub lines : List Line
  pub end_tick : ℕ

-- the value set last up to a tick, or the one before where there is none
abbrev pub value_set : ℕ → ℕ → ℤ → List Line → ℤ
value_set t d v [] = v
value_set t d v (sets u e w ∷ ls) = value_set t d (cond (nat_eq e d && nat_le u t) w v) ls
value_set t d v (occurs u e ∷ ls) = value_set t d v ls

-- what a device answers at a tick
abbrev pub device_value : Script → ℕ → ℕ → ℤ
device_value s t d = value_set t d (pos 0) s.lines

abbrev pub release_of : ℕ → ℕ → Event
release_of t k = record { tick = t; proc = k; act = act.Release }

abbrev pub was_released_at : ℕ → Doing → Bool
was_released_at t idle = false
was_released_at t (active r) = nat_eq r t
was_released_at t (waiting r x since limit number) = nat_eq r t

-- the release of process k at a tick, unless it has come
abbrev pub release_missing : ℕ → ℕ → Option Job → List Event
release_missing t k None = []
release_missing t k (Some j) = cond (was_released_at t j.doing) [] (release_of t k ∷ [])

abbrev pub waits_for_event : Program → ℕ → Trigger → Bool
waits_for_event g e (at_event name frame deadline) = nat_eq (event_number g name) e
waits_for_event g e (periodic frame deadline first) = false

-- the releases by event e that have not come, of the processes from number k on
abbrev pub releases_by : Program → Config → ℕ → ℕ → ℕ → List Process → List Event
releases_by g c t e k [] = []
releases_by g c t e k (p ∷ ps) = cond (waits_for_event g e p.activation) (release_missing t k (slice_get c.jobs k)) [] ++ releases_by g c t e (suc k) ps

-- the releases by the events of a tick, in script order
abbrev pub event_releases : Program → Config → ℕ → List Line → List Event
event_releases g c t [] = []
event_releases g c t (sets u d v ∷ ls) = event_releases g c t ls
event_releases g c t (occurs u e ∷ ls) = cond (nat_eq u t) (releases_by g c t e 0 (processes g)) [] ++ event_releases g c t ls

abbrev pub first_of : Program → Option Constant → ℕ
first_of g None = 0
first_of g (Some f) = count_value g f

-- a periodic process is due at its first activation and each frame after it
abbrev pub is_due : Program → ℕ → Trigger → Bool
is_due g t (periodic frame deadline first) = nat_le (first_of g first) t && nat_eq ((t - first_of g first) % count_value g frame) 0
is_due g t (at_event name frame deadline) = false

-- the periodic releases at a tick, in textual order
abbrev pub periodic_releases : Program → Config → ℕ → ℕ → List Process → List Event
periodic_releases g c t k [] = []
periodic_releases g c t k (p ∷ ps) = cond (is_due g t p.activation) (release_missing t k (slice_get c.jobs k)) [] ++ periodic_releases g c t (suc k) ps

abbrev pub doing_time_out : ℕ → ℕ → Doing → List Event
doing_time_out t k (waiting r x since limit number) =
    cond (nat_eq (since + limit + 1) t) (record { tick = t; proc = k; act = act.TimeOut x number } ∷ []) []
doing_time_out t k _ = []

abbrev pub time_out : ℕ → ℕ → Option Job → List Event
time_out t k None = []
time_out t k (Some j) = doing_time_out t k j.doing

-- the time-outs at a tick, in rank order
abbrev pub time_outs : Program → Config → ℕ → List Event
time_outs g c t = flat_map (λ k. time_out t k (slice_get c.jobs k)) (by_rank g)

-- The start events due at a tick that have not come, in order. Once somebody has acted in the tick,
-- all have come.
unfoldable pub due : Program → Script → Config → ℕ → List Event
due g s c t = cond (c.acted && nat_eq c.tick t) [] (event_releases g c t s.lines ++ (periodic_releases g c t 0 (processes g) ++ time_outs g c t))

-- no start event due before the tick is missing
abbrev pub NoneMissing : Program → Script → Config → ℕ → Type 0
NoneMissing g s c t = (u : ℕ) → c.tick ≤ u → u < t → due g s c u ≡ []

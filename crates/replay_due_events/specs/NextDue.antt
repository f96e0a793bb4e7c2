-- The tick at which a start event is due next.
use Rattle.std.specs.Prelude.{◌≡◌, ℕ, suc, ◌+◌, ◌-◌, ◌*◌, ◌≤◌, ◌<◌, Bool, true, false, cond, ◌&&◌, not, List, [], ◌∷◌, Option, Some, None, nat_le, min, slice_get, All, length}
use Rattle.std.specs.Int.{div_ceil}
use Rattle.base.specs.declared.event.Event.{Event}
use Rattle.syntax_tree.specs.Plain.{Trigger, periodic, at_event, Process, Program}
use Rattle.source_semantics.specs.Names.{processes, count_value}
use Rattle.source_semantics.specs.Config.{Doing, idle, active, waiting, Job, Config}
use Rattle.source_semantics.specs.Ranks.{by_rank, numbers_from}
use Rattle.source_semantics.specs.Starts.{Line, sets, occurs, Script, was_released_at, releases_by, first_of, due}

-- the first tick from one on at which there is something, if there ever is
abbrev pub First : (ℕ → List Event) → ℕ → Option ℕ → Type 0
First f from None = (u : ℕ) → from ≤ u → f u ≡ []
First f from (Some n) = (from ≤ n) × (f n ≡ [] → ⊥) × ((u : ℕ) → from ≤ u → u < n → f u ≡ [])

abbrev pub IsNextDue : Program → Script → Config → Option ℕ → Type 0
IsNextDue g s c next = First (due g s c) c.tick next

-- the sooner of two ticks, where there are any
abbrev pub sooner : Option ℕ → Option ℕ → Option ℕ
sooner None b = b
sooner (Some a) None = Some a
sooner (Some a) (Some b) = Some (min a b)

-- nothing is due before the tick
abbrev pub is_after : ℕ → Option ℕ → Bool
is_after t None = true
is_after t (Some n) = nat_le t n

abbrev pub is_empty : List Event → Bool
is_empty [] = true
is_empty (e ∷ es) = false

-- a line's tick, where it releases somebody who has not been released in it
abbrev pub line_due : Program → Config → ℕ → Line → Option ℕ
line_due g c from (sets u d v) = None
line_due g c from (occurs u e) = cond (nat_le from u && not (is_empty (releases_by g c u e 0 (processes g)))) (Some u) None

abbrev pub lines_due : Program → Config → ℕ → List Line → Option ℕ
lines_due g c from [] = None
lines_due g c from (l ∷ ls) = sooner (line_due g c from l) (lines_due g c from ls)

-- the first release of a periodic process from a tick on
abbrev pub release_from : (first frame from : ℕ) → ℕ
release_from first frame from = first + div_ceil (from - first) frame * frame

-- or the one after it, where that one has come
abbrev pub release_still : (frame n : ℕ) → Doing → ℕ
release_still frame n d = cond (was_released_at n d) (n + frame) n

abbrev pub activation_due : Program → ℕ → Trigger → Option Job → Option ℕ
activation_due g from (at_event e frame deadline) j = None
activation_due g from (periodic frame deadline first) None = None
activation_due g from (periodic frame deadline first) (Some j) = Some (release_still (count_value g frame) (release_from (first_of g first) (count_value g frame) from) j.doing)

-- the next periodic release of those of the processes, the first of which is number k
abbrev pub periodic_due : Program → Config → ℕ → ℕ → List Process → Option ℕ
periodic_due g c from k [] = None
periodic_due g c from k (p ∷ ps) = sooner (activation_due g from p.activation (slice_get c.jobs k)) (periodic_due g c from (suc k) ps)

-- the time-out of a wait, where it is not past
abbrev pub doing_due : ℕ → Doing → Option ℕ
doing_due from (waiting r x since limit number) = cond (nat_le from (since + limit + 1)) (Some (since + limit + 1)) None
doing_due from idle = None
doing_due from (active r) = None

abbrev pub job_due : ℕ → Option Job → Option ℕ
job_due from None = None
job_due from (Some j) = doing_due from j.doing

-- the next time-out of these processes
abbrev pub waits_due : Config → ℕ → List ℕ → Option ℕ
waits_due c from [] = None
waits_due c from (k ∷ ks) = sooner (job_due from (slice_get c.jobs k)) (waits_due c from ks)

-- start events can be missing from the tick reached on, or from the next one where somebody has
-- acted in it
abbrev pub due_from : Config → ℕ
due_from c = cond c.acted (suc c.tick) c.tick

-- the tick at which a start event is missing next
abbrev pub next_due : Program → Script → Config → Option ℕ
next_due g s c = sooner (lines_due g c (due_from c) s.lines) (sooner (periodic_due g c (due_from c) 0 (processes g)) (waits_due c (due_from c) (by_rank g)))

-- the same with the processes in textual order
abbrev pub next_in_order : Program → Script → Config → Option ℕ
next_in_order g s c = sooner (lines_due g c (due_from c) s.lines) (sooner (periodic_due g c (due_from c) 0 (processes g)) (waits_due c (due_from c) (numbers_from (length (processes g)) 0)))

abbrev pub FramePasses : Program → Trigger → Type 0
FramePasses g (periodic frame deadline first) = 0 < count_value g frame
FramePasses g (at_event e frame deadline) = Unit {0}

-- no periodic process has a frame of no ticks
abbrev pub FramesPass : Program → Type 0
FramesPass g = All (λ p. FramePasses g p.activation) (processes g)

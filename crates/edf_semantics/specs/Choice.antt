-- The choice of earliest deadline first with ceilings, in place of the one of least active rank.
use Rattle.std.specs.Prelude.{◌+◌, ◌&&◌, ◌||◌, ℕ, Bool, true, false, not, List, [], ◌∷◌, Option, Some, None, if◌then◌else◌, slice_get, nat_lt, nat_eq}
use Rattle.machine_semantics.specs.Image.{Image, Process}
use Rattle.machine_semantics.specs.State.{Thread, Idle, Ready, Waiting}
use Rattle.machine_semantics.specs.Tick.{ceiling}

-- what the choice knows of an activation beside where it stands: the tick of its release, and
-- whether it has had a tick
pub record Mark : Type 0 where
  pub release : ℕ
  pub begun : Bool

-- a ready process: its number, the tick of its deadline, its rank, and whether its activation has
-- had a tick
pub record Entry : Type 0 where
  pub place : ℕ
  pub due : ℕ
  pub rank : ℕ
  pub begun : Bool

-- the sooner deadline comes before; of two alike the less rank
abbrev pub is_sooner : Entry → Entry → Bool
is_sooner a b = nat_lt a.due b.due || (nat_eq a.due b.due && nat_lt a.rank b.rank)

abbrev pub sooner_of : Entry → Option Entry → Option Entry
sooner_of a None = Some a
sooner_of a (Some b) = if is_sooner b a then Some b else Some a

abbrev pub entry : ℕ → Process → Mark → Entry
entry k p m = record { place = k; due = m.release + p.deadline; rank = p.rank; begun = m.begun }

-- the first of those that are ready, or of those of them that have begun, from process k on
abbrev pub soonest : (begun : Bool) → ℕ → List Process → List Thread → List Mark → Option Entry
soonest begun k [] ts ms = None
soonest begun k (p ∷ ps) [] ms = None
soonest begun k (p ∷ ps) (t ∷ ts) [] = None
soonest begun k (p ∷ ps) (Ready job ∷ ts) (m ∷ ms) = if m.begun || not begun then sooner_of (entry k p m) (soonest begun (k + 1) ps ts ms) else soonest begun (k + 1) ps ts ms
soonest begun k (p ∷ ps) (Idle ∷ ts) (m ∷ ms) = soonest begun (k + 1) ps ts ms
soonest begun k (p ∷ ps) (Waiting condition due number job ∷ ts) (m ∷ ms) = soonest begun (k + 1) ps ts ms

-- the lesser of a ceiling and another, if there is one
abbrev pub lesser : ℕ → Option ℕ → Option ℕ
lesser c None = Some c
lesser c (Some d) = if nat_lt d c then Some d else Some c

-- with the ceiling of the monitor that a process is inside
abbrev pub with_inside : Image → Option ℕ → Option ℕ → Option ℕ
with_inside image None least = least
with_inside image (Some m) least = lesser (ceiling (slice_get image.monitors m)) least

-- the least ceiling of a monitor that somebody is inside
abbrev pub least_ceiling : Image → List Thread → Option ℕ
least_ceiling image [] = None
least_ceiling image (Ready job ∷ ts) = with_inside image job.inside (least_ceiling image ts)
least_ceiling image (Idle ∷ ts) = least_ceiling image ts
least_ceiling image (Waiting condition due number job ∷ ts) = least_ceiling image ts

-- its activation has had a tick, or no monitor is occupied, or its rank is below the least ceiling
abbrev pub may_go : Entry → Option ℕ → Bool
may_go e None = true
may_go e (Some c) = e.begun || nat_lt e.rank c

-- the first that is ready, if it may go; else the first of those that have begun
abbrev pub taken : (least first_begun : Option ℕ) → Option Entry → Option ℕ
taken least first_begun None = None
taken least first_begun (Some e) = if may_go e least then Some e.place else first_begun

abbrev pub place_of : Option Entry → Option ℕ
place_of None = None
place_of (Some e) = Some e.place

-- the process that runs, if any is ready
unfoldable pub choose : Image → List Thread → List Mark → Option ℕ
choose image ts ms = taken (least_ceiling image ts) (place_of (soonest true 0 image.processes ts ms)) (soonest false 0 image.processes ts ms)

-- Which of the ready processes runs.
use Rattle.std.specs.Prelude.{◌+◌, ◌*◌, ℕ, zero, suc, Bool, true, false, List, [], ◌∷◌, Option, Some, None, if◌then◌else◌, nat_lt}
use Rattle.vm_stretch.specs.declared.choice.Contender.{Contender}
use Rattle.vm_stretch.specs.declared.choice.Best.{Best}

-- 0 inside a monitor, 1 outside
abbrev pub outside : Bool → ℕ
outside true = 0
outside false = 1

-- what it is chosen by, the less first: its active rank, and of two alike one inside a monitor
-- before one outside
abbrev pub key : Contender → ℕ
key s = 2 * s.active + outside s.inside

-- a place and what stands there is chosen by
pub record Entry : Type 0 where
  pub place : ℕ
  pub key : ℕ

-- the one that comes before; of two alike the first
abbrev pub sooner : Entry → Option Entry → Option Entry
sooner a None = Some a
sooner a (Some b) = if nat_lt b.key a.key then Some b else Some a

-- the foremost of those that are ready, from place k on
abbrev pub foremost_from : ℕ → List Contender → Option Entry
foremost_from k [] = None
foremost_from k (s ∷ ss) = if s.ready then sooner (record { place = k; key = key s }) (foremost_from (k + 1) ss) else foremost_from (k + 1) ss

abbrev pub place_of : Option Entry → Option ℕ
place_of None = None
place_of (Some e) = Some e.place

-- the place of the ready one with the least active rank, one inside a monitor before one outside,
-- then the least place
abbrev pub foremost : List Contender → Option ℕ
foremost all = place_of (foremost_from 0 all)

-- the foremost so far, and the rest
abbrev pub joined : Option Entry → Option Entry → Option Entry
joined None rest = rest
joined (Some a) rest = sooner a rest

-- what code has found, as an entry
abbrev pub entry_of : Option Best → Option Entry
entry_of None = None
entry_of (Some f) = Some (record { place = f.place; key = f.key })

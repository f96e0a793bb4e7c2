-- The ranks of processes, the ceilings of monitors, and how long a lower process can keep a higher
-- one from running.
use Rattle.std.specs.Prelude.{◌≡◌, ◌<◌, ◌≤◌, ◌+◌, ◌==◌, ◌&&◌, ◌||◌, ◌⊎◌, ℕ, Bool, nat_lt, List, [], length, Option, Some, None, IsTrue, IsSomeAnd, slice_index, slice_index_or, Any}
use Rattle.sched_response.specs.Counts.{count_below}
use Rattle.sched_response.specs.declared.uses.Stay.{Stay}
use Rattle.sched_response.specs.declared.uses.Use.{Use}

abbrev pub use_at : List Use → ℕ → Use
use_at us p = slice_index_or us p (record { frame = 0; deadline = 0; cost = record { run = 0; susp = 0; waits = 0 }; stays = [] })

-- p ranks higher than q: its deadline is shorter, or as long and p stands first in the text
abbrev pub outranks : List Use → ℕ → ℕ → Bool
outranks us p q = nat_lt (use_at us p).deadline (use_at us q).deadline || ((use_at us p).deadline == (use_at us q).deadline && nat_lt p q)

-- ranks are 1 .. number of processes, and the process that ranks higher has the smaller number
pub record AreRanks (us : List Use) (ranks : List ℕ) : Type 0 where
  pub one_each : length ranks ≡ length us
  pub low : (p : ℕ) → p < length us → 1 ≤ slice_index ranks p
  pub high : (p : ℕ) → p < length us → slice_index ranks p ≤ length us
  pub ordered : (p q : ℕ) → p < length us → q < length us → IsTrue (outranks us p q) → slice_index ranks p < slice_index ranks q

-- the rank of each process is one more than the number of those that rank higher
abbrev pub AreCounted : List Use → List ℕ → Type 0
AreCounted us ranks = (k : ℕ) → k < length us → slice_index ranks k ≡ 1 + count_below (λ other. outranks us other k) (length us)

-- the process reaches an entry of the monitor
abbrev pub Reaches : ℕ → Use → Type 0
Reaches mon u = Any (λ s. s.mon ≡ mon) u.stays

-- some process, of the first n, of this rank reaches the monitor, and none of a lesser one does
pub record IsLeastRank (n : ℕ) (us : List Use) (ranks : List ℕ) (mon rank : ℕ) : Type 0 where
  pub one : (p : ℕ) × (p < n) × Reaches mon (use_at us p) × (slice_index ranks p ≡ rank)
  pub least : (p : ℕ) → p < n → Reaches mon (use_at us p) → rank ≤ slice_index ranks p

-- the least rank among the first n processes that reach the monitor, if any of them does
abbrev pub IsCeilingAmong : ℕ → List Use → List ℕ → ℕ → Option ℕ → Type 0
IsCeilingAmong n us ranks mon None = (p : ℕ) → p < n → ¬ Reaches mon (use_at us p)
IsCeilingAmong n us ranks mon (Some rank) = IsLeastRank n us ranks mon rank

-- one ceiling for each monitor, by its number
pub record AreCeilings (us : List Use) (ranks : List ℕ) (monitors : ℕ) (ceilings : List (Option ℕ)) : Type 0 where
  pub one_each : length ceilings ≡ monitors
  pub each : (mon : ℕ) → mon < monitors → IsCeilingAmong (length us) us ranks mon (slice_index_or ceilings mon None)

abbrev pub stay_at : List Stay → ℕ → Stay
stay_at stays k = slice_index_or stays k (record { mon = 0; ticks = 0 })

-- it is in a monitor whose ceiling is at most the rank, as a number
abbrev pub Blocks : List (Option ℕ) → ℕ → Stay → Type 0
Blocks ceilings rank stay = IsSomeAnd (slice_index_or ceilings stay.mon None) (λ ceiling. ceiling ≤ rank)

-- one of the first n stays is such a one, and takes these ticks
abbrev pub IsStayOf : ℕ → List Stay → List (Option ℕ) → ℕ → ℕ → Type 0
IsStayOf n stays ceilings rank ticks = (k : ℕ) × (k < n) × Blocks ceilings rank (stay_at stays k) × ((stay_at stays k).ticks ≡ ticks)

-- one of the first n processes ranks below, and has such a stay
abbrev pub IsLowerStay : ℕ → List Use → List ℕ → List (Option ℕ) → ℕ → ℕ → Type 0
IsLowerStay n us ranks ceilings rank ticks = (p : ℕ) × (p < n) × (rank < slice_index ranks p) × IsStayOf (length (use_at us p).stays) (use_at us p).stays ceilings rank ticks

-- b is the greatest number of which P holds, and 0 where it holds of none
pub record IsGreatest (P : ℕ → Type 0) (b : ℕ) : Type 0 where
  pub most : (n : ℕ) → P n → n ≤ b
  pub one : (b ≡ 0) ⊎ P b

-- how long a process of lower rank can keep this rank from running: its longest stay in a monitor
-- whose ceiling is at most the rank
abbrev pub IsBlocking : List Use → List ℕ → List (Option ℕ) → ℕ → ℕ → Type 0
IsBlocking us ranks ceilings rank b = IsGreatest (IsLowerStay (length us) us ranks ceilings rank) b

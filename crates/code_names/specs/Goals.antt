-- The first of the goals that code comes to by its calls. A routine is a goal where it has a place
-- of its own; it calls routines with lower numbers alone.
use Rattle.std.specs.Prelude.{◌≡◌, ◌≤◌, ◌<◌, ℕ, List, [], ◌∷◌, Option, Some, None, cond, length, min, nat_le, slice_get, slice_index_or, take}
use Rattle.code_names.specs.declared.nearest.Reached.{Reached}

-- the earlier of two places, where there are any
abbrev pub earlier : Option ℕ → Option ℕ → Option ℕ
earlier None b = b
earlier (Some a) None = Some a
earlier (Some a) (Some b) = Some (min a b)

-- the place that a row has of a routine
abbrev pub place_at : List (Option ℕ) → ℕ → Option ℕ
place_at row r = slice_index_or row r None

-- the earliest place that a row has of these routines
abbrev pub earliest_of : List (Option ℕ) → List ℕ → Option ℕ
earliest_of row [] = None
earliest_of row (r ∷ rs) = earlier (place_at row r) (earliest_of row rs)

-- the routines that a piece of code calls, by its number
abbrev pub calls_at : List (List ℕ) → ℕ → List ℕ
calls_at calls k = slice_index_or calls k []

-- The first place that each of n routines comes to: its own, or the first of those that it calls.
pub record AreFirstPlaces (goals : List (Option ℕ)) (calls : List (List ℕ)) (n : ℕ) (row : List (Option ℕ)) : Type 0 where
  pub one_each : length row ≡ n
  pub each : (r : ℕ) → r < n → place_at row r ≡ earlier (place_at goals r) (earliest_of (take r row) (calls_at calls r))

-- of some pieces, where each comes to a place or to none: the first place, and the first of the
-- pieces that come to it
pub record IsFirstReached (place_of : ℕ → Option ℕ) (pieces : List ℕ) (b : Reached) : Type 0 where
  pub at : ℕ
  pub there : slice_get pieces at ≡ Some b.piece
  pub is : place_of b.piece ≡ Some b.place
  pub first : (i k p : ℕ) → slice_get pieces i ≡ Some k → place_of k ≡ Some p → b.place ≤ p
  pub nearest : (i k : ℕ) → slice_get pieces i ≡ Some k → place_of k ≡ Some b.place → at ≤ i

-- nothing where none comes to a place
abbrev pub IsFirst : (ℕ → Option ℕ) → List ℕ → Option Reached → Type 0
IsFirst place_of pieces None = (i k : ℕ) → slice_get pieces i ≡ Some k → place_of k ≡ None
IsFirst place_of pieces (Some b) = IsFirstReached place_of pieces b

-- ---- as it is found, from the last piece on

-- a piece that stands before those of which one is reached first
abbrev pub nearer : (piece : ℕ) → Option ℕ → Option Reached → Option Reached
nearer k None best = best
nearer k (Some p) None = Some (record { place = p; piece = k })
nearer k (Some p) (Some b) = cond (nat_le p b.place) (Some (record { place = p; piece = k })) (Some b)

abbrev pub reached_from : List (Option ℕ) → List (List ℕ) → List ℕ → Option Reached
reached_from row calls [] = None
reached_from row calls (k ∷ ks) = nearer k (earliest_of row (calls_at calls k)) (reached_from row calls ks)

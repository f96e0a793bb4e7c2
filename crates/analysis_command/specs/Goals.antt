-- The entries that can make a block, as an image has them.
use Rattle.std.specs.Prelude.{◌≡◌, ◌<◌, ◌&&◌, ℕ, Bool, false, cond, List, Option, Some, None, length, nat_eq, nat_le, slice_get, slice_index}
use Rattle.machine_semantics.specs.Image.{Image, Monitor, Routine}
use Rattle.code_names.specs.Goals.{place_at}

-- the monitor is there, and its ceiling is at most the rank
abbrev pub low_ceiling : Option Monitor → (held_up : ℕ) → Bool
low_ceiling None held = false
low_ceiling (Some x) held = nat_le x.ceiling held

-- the routine is an entry in which a stay of so many ticks holds up the rank
abbrev pub goal_of : Image → (held_up block : ℕ) → Routine → Bool
goal_of m held block x = nat_eq x.kind 2 && (nat_eq x.stay block && low_ceiling (slice_get m.monitors x.owner) held)

abbrev pub is_goal : Image → (held_up block : ℕ) → Option Routine → Bool
is_goal m held block None = false
is_goal m held block (Some x) = goal_of m held block x

-- the place of routine r, where it is such an entry
abbrev pub goal_place : Image → (places : List ℕ) → (held_up block r : ℕ) → Option ℕ
goal_place m places held block r = cond (is_goal m held block (slice_get m.routines r)) (Some (slice_index places r)) None

-- by routine
pub record AreGoals (m : Image) (places : List ℕ) (held_up block : ℕ) (goals : List (Option ℕ)) : Type 0 where
  pub one_each : length goals ≡ length m.routines
  pub each : (r : ℕ) → r < length m.routines → place_at goals r ≡ goal_place m places held_up block r

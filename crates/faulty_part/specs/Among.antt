-- The number of a routine among those of its owner: how many of these stand before it.
use Rattle.std.specs.Prelude.{◌&&◌, ◌||◌, ℕ, Bool, List, take, count_by, nat_eq}
use Rattle.machine_semantics.specs.Image.{Routine}

-- both are of the program, of one process or of one monitor
abbrev pub share_owner : Routine → Routine → Bool
share_owner x y = nat_eq x.kind y.kind && (nat_eq x.kind 0 || nat_eq x.owner y.owner)

abbrev pub number_among : List Routine → (r : ℕ) → Routine → ℕ
number_among routines r x = count_by (share_owner x) (take r routines)

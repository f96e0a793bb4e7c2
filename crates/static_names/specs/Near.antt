-- How places are hashed.
use Rattle.std.specs.Prelude.{ℕ, ◌+◌, ◌*◌, ◌/◌, ◌%◌, ◌^◌, List, length, if◌then◌else◌, nat_eq, slice_index_or}
use Rattle.static_names.specs.declared.near_places.NearHasher.{NearHasher}

-- four bytes as a number, the lowest first
abbrev pub number_of : List ℕ → ℕ
number_of bs =
    if nat_eq (length bs) 4 then (slice_index_or bs 0 0 + 256 * slice_index_or bs 1 0) + 65536 * (slice_index_or bs 2 0 + 256 * slice_index_or bs 3 0)
    else 0

abbrev pub start : NearHasher
start = record { state = 0 }

-- the state after these bytes
abbrev pub after : NearHasher → List ℕ → NearHasher
after h bs = record { state = ((h.state * 0x9E37_79B1) % 2 ^ 64 + number_of bs) % 2 ^ 64 }

-- what the state answers
abbrev pub answer : NearHasher → ℕ
answer h = (h.state % 64 + 1) * 16777216 + (h.state / 8) % 16777216

-- Lists in which one place may have changed.
use Rattle.std.specs.Prelude.{◌≡◌, ◌≢◌, ℕ, List, slice_get}

-- all but the one with this number are as they were
abbrev pub OthersStay : {X : Type 0} → ℕ → List X → List X → Type 0
OthersStay place old new = (k : ℕ) → k ≢ place → slice_get new k ≡ slice_get old k

-- What routines reach, as far as waits go.
use Rattle.std.specs.Prelude.{◌≡◌, ℕ, Bool, false, List, None, map}
use Rattle.image.specs.declared.raw.RawImage.{RawImage}
use Rattle.image.specs.Raw.{image_of}
use Rattle.valid_image.specs.Tables.{Reach, waits_at, reach}

-- a routine that reaches a WAIT or none, and nothing else
abbrev pub bare : Bool → Reach
bare waits = record { waits = waits; bound = false; stays = λ m. None }

abbrev pub IsAlike : List Reach → List Reach → Type 0
IsAlike xs ys = (r : ℕ) → waits_at xs r ≡ waits_at ys r

-- which routines of an image reach a WAIT
abbrev pub AreWaits : RawImage → List Bool → Type 0
AreWaits raw waits = IsAlike (map bare waits) (reach (image_of raw))

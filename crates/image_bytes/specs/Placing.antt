-- Parts that stand one after the other, whatever bytes they stand in.
use Rattle.std.specs.Prelude.{◌≡◌, ◌+◌, ◌^◌, ◌<◌, ◌++◌, ℕ, List, length, drop}
use Rattle.std.specs.List.{flat_map}
use Rattle.image_format.specs.Format.{Format}
use Rattle.image_format.specs.Numbers.{name_bytes}
use Rattle.image.specs.Bytes.{device_bytes, event_bytes}
use Rattle.image.specs.declared.raw.RawImage.{RawImage}
use Rattle.image_bytes.specs.Places.{AreAt}

-- the place behind what is written from a start on is one that there can be
abbrev pub HasEnd : (start : ℕ) → (written : List ℕ) → Type 0
HasEnd start written = start + length written < 2 ^ 64

-- where bytes have this written from a start on, each thing is read from them where it begins
abbrev pub AreAmong : {A : Type 0} → Format A → (start : ℕ) → (written places : List ℕ) → List A → Type 0
AreAmong f start written places xs = (bytes rest : List ℕ) → drop start bytes ≡ written ++ rest → AreAt f bytes places xs

-- what stands between the counts of an image and its monitors
abbrev pub opening_bytes : RawImage → List ℕ
opening_bytes raw = name_bytes raw.program ++ (flat_map device_bytes raw.names.devices ++ flat_map event_bytes raw.names.events)

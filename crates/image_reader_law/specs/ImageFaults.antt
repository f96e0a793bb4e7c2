-- The laws of the faults of files.
use Rattle.std.specs.Prelude.{◌≡◌, ◌≤◌, ◌<◌, ◌++◌, ◌↔◌, ◌⊎◌, ℕ, true, false, List, [], ◌∷◌, length, take, drop, codes}
use Rattle.image.specs.Bytes.{Version, bytes_of}
use Rattle.image_reader.specs.declared.counts.Counts.{Counts}
use Rattle.image_reader.specs.Answer.{HasFault}
use Rattle.image_reader.specs.Grammar.{counts_format, name_format}
use Rattle.image_reader.specs.File.{Parts, counts_of, image_with, image_format, longest, over_format, devices_format, events_format, monitors_format, conditions_format, routines_format, processes_format, with_devices, with_monitors, all_used, used_by}
use Rattle.image_format.specs.FormatLaw.{AreBytes}
use Rattle.image_reader_law.specs.Faults as faults
use Rattle.image_reader_law.specs.Faults.{pair, IsMade, IsFileFault}

-- ---- all faults

-- the format of images is put together of fields
abbrev pub TheFormatOfImagesIsMade : Type 0
TheFormatOfImagesIsMade = IsMade (pair faults.version faults.parts) image_format

-- the fault that reading a file tells is the one that its bytes have
abbrev pub FaultsAreToldExactly : Type 0
FaultsAreToldExactly =
    (bytes : List ℕ) (number offset : ℕ) → AreBytes bytes
    → HasFault bytes number offset ↔ IsFileFault bytes number offset

-- two faults of one file are one
abbrev pub EachFileHasOneFault : Type 0
EachFileHasOneFault =
    (bytes : List ℕ) (m n p q : ℕ) → IsFileFault bytes m p → IsFileFault bytes n q
    → (m ≡ n) × (p ≡ q)

-- the bytes are those of an image, in a version, whose fields are in their ranges
pub record IsImage (bytes : List ℕ) : Type 0 where
  pub version : Version
  pub parts : Parts
  pub in_range : image_format.is (version, parts) ≡ true
  pub are : bytes ≡ bytes_of version (image_with parts)

-- an image has none
abbrev pub NoImageHasAFault : Type 0
NoImageHasAFault =
    (bytes : List ℕ) (number offset : ℕ) → length bytes ≤ longest → IsImage bytes
    → IsFileFault bytes number offset → ⊥

-- a file holds an image or has a fault
abbrev pub EachFileIsAnImageOrHasAFault : Type 0
EachFileIsAnImageOrHasAFault =
    (bytes : List ℕ) → AreBytes bytes
    → IsImage bytes ⊎ ((number : ℕ) × (offset : ℕ) × IsFileFault bytes number offset)

-- ---- single numbers

-- I9 where there are more than 8,388,608 bytes, behind so many
abbrev pub TooManyBytesAreI9 : Type 0
TooManyBytesAreI9 =
    (bytes : List ℕ) (offset : ℕ) → AreBytes bytes
    → IsFileFault bytes 9 offset ↔ ((8388608 < length bytes) × (offset ≡ 8388608))

-- four bytes are there and are not the letters of an image
pub record OtherLetters (bytes : List ℕ) : Type 0 where
  pub few : length bytes ≤ 8388608
  pub there : 4 ≤ length bytes
  pub other : take 4 bytes ≡ codes "RTEU" → ⊥

-- I1 at the letters where they are others
abbrev pub OtherLettersAreI1 : Type 0
OtherLettersAreI1 = (bytes : List ℕ) → AreBytes bytes → IsFileFault bytes 1 0 ↔ OtherLetters bytes

-- the letters are those of an image, and behind them are two bytes that are neither version
pub record OtherVersion (bytes : List ℕ) : Type 0 where
  pub few : length bytes ≤ 8388608
  pub letters : take 4 bytes ≡ codes "RTEU"
  pub there : 6 ≤ length bytes
  pub not_first : take 2 (drop 4 bytes) ≡ 0 ∷ 1 ∷ [] → ⊥
  pub not_second : take 2 (drop 4 bytes) ≡ 0 ∷ 2 ∷ [] → ⊥

-- I1 at the version where it is another
abbrev pub OtherVersionsAreI1 : Type 0
OtherVersionsAreI1 = (bytes : List ℕ) → AreBytes bytes → IsFileFault bytes 1 4 ↔ OtherVersion bytes

-- I1 stands at the letters or at the version
abbrev pub I1StandsInFront : Type 0
I1StandsInFront =
    (bytes : List ℕ) (offset : ℕ) → AreBytes bytes → IsFileFault bytes 1 offset
    → (offset ≡ 0) ⊎ (offset ≡ 4)

-- I2 stands at the end of the bytes
abbrev pub I2StandsAtTheEnd : Type 0
I2StandsAtTheEnd =
    (bytes : List ℕ) (offset : ℕ) → AreBytes bytes → IsFileFault bytes 2 offset
    → offset ≡ length bytes

-- the names that stand before the monitors, and before the conditions
abbrev pub before_monitors : Parts → List (List ℕ)
before_monitors p = with_devices (p.program ∷ []) p.devices ++ p.events

abbrev pub before_conditions : Parts → List (List ℕ)
before_conditions p = with_monitors (before_monitors p) p.monitors

-- the fields of an image are in their ranges, up to its code
pub record FieldsInRange (version : Version) (counts : Counts) (p : Parts) : Type 0 where
  pub over : (over_format version).is p.over ≡ true
  pub so_many : counts_format.is counts ≡ true
  pub program : (name_format []).is p.program ≡ true
  pub devices : (devices_format counts (p.program ∷ [])).is p.devices ≡ true
  pub events : (events_format counts (with_devices (p.program ∷ []) p.devices)).is p.events ≡ true
  pub monitors : (monitors_format counts (before_monitors p)).is p.monitors ≡ true
  pub conditions : (conditions_format counts (before_conditions p)).is p.conditions ≡ true
  pub routines : (routines_format counts).is p.routines ≡ true
  pub processes : (processes_format version counts (before_conditions p)).is p.processes ≡ true

-- the bytes are those of an image without code, whose fields are in their ranges, but that an event
-- of it is of no process
pub record LacksAProcess (bytes : List ℕ) : Type 0 where
  pub version : Version
  pub parts : Parts
  pub in_range : FieldsInRange version (counts_of parts) parts
  pub no_code : parts.code ≡ []
  pub unused : all_used (used_by parts.processes) 0 (length parts.events) ≡ false
  pub are : bytes ≡ image_format.write (version, parts)

-- I3 where the first bytes are those of an image and there are more, behind the image; the image
-- may lack a process, if it has no code
abbrev pub MoreBytesAreI3 : Type 0
MoreBytesAreI3 =
    (bytes : List ℕ) (offset : ℕ) → AreBytes bytes
    → IsFileFault bytes 3 offset ↔ ((length bytes ≤ 8388608) × (offset < length bytes)
    × (IsImage (take offset bytes) ⊎ LacksAProcess (take offset bytes)))

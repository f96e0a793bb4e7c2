-- The laws: where a file has the faults I2 and I4 to I8.
use Rattle.std.specs.Prelude.{◌≡◌, ◌≤◌, ◌+◌, ◌-◌, ◌↔◌, ◌⊎◌, ℕ, suc, List, [], ◌∷◌, length}
use Rattle.image_format.specs.FormatLaw.{AreBytes}
use Rattle.image_reader_law.specs.Faults.{IsFileFault}
use Rattle.image_reader_law.specs.Layout.{Layout, lacks_process, image}
use Rattle.image_reader_law.specs.Places.{Reaches, EndsInside, HasWrong, BreaksRule}

-- the bytes of an image end, where code would come behind an event of no process
abbrev pub EndsBeforeCode : Layout → List ℕ → Type 0
EndsBeforeCode l rest = (rest ≡ []) × ((code : ℕ) × (l ≡ lacks_process (suc code)))

-- the bytes are right up to their end, which is inside a field
pub record EndsInField (bytes : List ℕ) : Type 0 where
  pub few : length bytes ≤ 8388608
  pub l : Layout
  pub rest : List ℕ
  pub reaches : Reaches image bytes l rest
  pub ends : EndsInside l rest ⊎ EndsBeforeCode l rest

-- I2 exactly where the bytes end inside a field, with nothing wrong before it
abbrev pub EndsInsideAreI2 : Type 0
EndsInsideAreI2 = (bytes : List ℕ) (offset : ℕ) → AreBytes bytes → IsFileFault bytes 2 offset ↔ (EndsInField bytes × (offset ≡ length bytes))

-- an event is of no process, and there is more exactly where code would come
abbrev pub LacksProcess : Layout → List ℕ → Type 0
LacksProcess l [] = l ≡ lacks_process 0
LacksProcess l (b ∷ more) = (code : ℕ) × (l ≡ lacks_process (suc code))

-- what stands at the offset is wrong: a field; fields that end there; or the end of the processes
abbrev pub StandsAt : Layout → (rest bytes : List ℕ) → (fault offset : ℕ) → Type 0
StandsAt l rest bytes fault offset =
    (HasWrong l rest fault × (offset ≡ length bytes - length rest))
    ⊎ (((back : ℕ) × BreaksRule l fault back × (offset ≡ length bytes - (back + length rest)))
    ⊎ ((fault ≡ 4) × LacksProcess l rest × (offset ≡ length bytes - length rest)))

-- the bytes are right up to some field, and wrong there
pub record IsWrongAt (bytes : List ℕ) (fault offset : ℕ) : Type 0 where
  pub few : length bytes ≤ 8388608
  pub l : Layout
  pub rest : List ℕ
  pub reaches : Reaches image bytes l rest
  pub stands : StandsAt l rest bytes fault offset

-- I4 to I8 exactly where a field is wrong or a rule is broken, by the tables of fields and rules,
-- with nothing wrong before
abbrev pub WrongFieldsAreTold : Type 0
WrongFieldsAreTold =
    (bytes : List ℕ) (fault offset : ℕ) → AreBytes bytes → 4 ≤ fault → fault ≤ 8
    → IsFileFault bytes fault offset ↔ IsWrongAt bytes fault offset

-- ---- number by number

-- the bytes are right up to a field, and that is wrong
pub record FieldWrongAt (bytes : List ℕ) (fault offset : ℕ) : Type 0 where
  pub few : length bytes ≤ 8388608
  pub l : Layout
  pub rest : List ℕ
  pub reaches : Reaches image bytes l rest
  pub wrong : HasWrong l rest fault
  pub place : offset ≡ length bytes - length rest

-- the bytes are right up to the end of some fields, and break their rule
pub record RuleBrokenAt (bytes : List ℕ) (fault offset : ℕ) : Type 0 where
  pub few : length bytes ≤ 8388608
  pub l : Layout
  pub rest : List ℕ
  pub reaches : Reaches image bytes l rest
  pub back : ℕ
  pub broken : BreaksRule l fault back
  pub place : offset ≡ length bytes - (back + length rest)

-- the bytes are right up to the end of the processes, and an event is of none
pub record ProcessLacksAt (bytes : List ℕ) (offset : ℕ) : Type 0 where
  pub few : length bytes ≤ 8388608
  pub l : Layout
  pub rest : List ℕ
  pub reaches : Reaches image bytes l rest
  pub lacks : LacksProcess l rest
  pub place : offset ≡ length bytes - length rest

-- I4: a number out of its range, or an event of no process
abbrev pub OutOfRangeIsI4 : Type 0
OutOfRangeIsI4 = (bytes : List ℕ) (offset : ℕ) → AreBytes bytes → IsFileFault bytes 4 offset ↔ (FieldWrongAt bytes 4 offset ⊎ ProcessLacksAt bytes offset)

-- I5: a name
abbrev pub WrongNamesAreI5 : Type 0
WrongNamesAreI5 = (bytes : List ℕ) (offset : ℕ) → AreBytes bytes → IsFileFault bytes 5 offset ↔ RuleBrokenAt bytes 5 offset

-- I6: a kind, a tag or an opcode
abbrev pub WrongKindsAreI6 : Type 0
WrongKindsAreI6 = (bytes : List ℕ) (offset : ℕ) → AreBytes bytes → IsFileFault bytes 6 offset ↔ FieldWrongAt bytes 6 offset

-- I7: a number where nothing stands
abbrev pub NumbersForNothingAreI7 : Type 0
NumbersForNothingAreI7 = (bytes : List ℕ) (offset : ℕ) → AreBytes bytes → IsFileFault bytes 7 offset ↔ (FieldWrongAt bytes 7 offset ⊎ RuleBrokenAt bytes 7 offset)

-- I8: a number that a handler takes
abbrev pub WrongHandledNumbersAreI8 : Type 0
WrongHandledNumbersAreI8 = (bytes : List ℕ) (offset : ℕ) → AreBytes bytes → IsFileFault bytes 8 offset ↔ FieldWrongAt bytes 8 offset

-- The law that what is asked of a line is what is asked of the fields of an image.
use Rattle.std.specs.Prelude.{◌≡◌, ◌↔◌, ℕ, List, [], ◌∷◌, length, Some}
use Rattle.image.specs.declared.names.ConditionName.{ConditionName}
use Rattle.image_reader_law.specs.Fields as fields
use Rattle.asm_law.specs.Notes.{Wrong, ranged, one_of, event, fresh, own_name, handled}

-- the last of some numbers, or 0
abbrev pub last_of : List ℕ → ℕ
last_of [] = 0
last_of (x ∷ []) = x
last_of (x ∷ y ∷ ys) = last_of (y ∷ ys)

-- What is wrong of a number, a name or a list in a line is what is wrong in the field of an image
-- that has it, with the same fault.
pub record NotesAreThoseOfImages : Type 0 where
  pub numbers : (size low high : ℕ) (bytes : List ℕ) (fault : ℕ) → Wrong (ranged low high (Some (fields.number size bytes))) fault ↔ fields.Wrong (fields.ranged size low high) bytes fault
  pub things : (count : ℕ) (bytes : List ℕ) (fault : ℕ) → Wrong (one_of count (fields.number 2 bytes)) fault ↔ fields.Wrong (fields.one_of count) bytes fault
  pub events : (events : ℕ) (used : List ℕ) (bytes : List ℕ) (fault : ℕ) → Wrong (event events used (fields.number 2 bytes)) fault ↔ fields.Wrong (fields.event events used) bytes fault
  pub names : (taken : List (List ℕ)) (name : List ℕ) → Wrong (fresh taken name) 5 ↔ fields.Breaks (fields.fresh taken name) 5
  pub long_names : (taken : List (List ℕ)) (name bytes : List ℕ) → fields.number 1 bytes ≡ length name → Wrong (fresh taken name) 4 ↔ fields.Wrong (fields.ranged 1 0 63) bytes 4
  pub conditions : (earlier : List ConditionName) (condition : ConditionName) (fault : ℕ) → Wrong (own_name earlier condition) fault ↔ fields.Breaks (fields.own_name earlier condition) fault
  pub numbers_handled : (earlier : List ℕ) (bytes : List ℕ) (fault : ℕ) → Wrong (handled (last_of earlier) (fields.number 2 bytes)) fault ↔ fields.Wrong (fields.handled earlier) bytes fault

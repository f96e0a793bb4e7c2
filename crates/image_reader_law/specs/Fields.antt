-- The fields of the bytes of an image: how many bytes each has, and which of its values are wrong,
-- with the number of the fault. Numbers stand with their highest byte first.
use Rattle.std.specs.Prelude.{◌≡◌, ◌≤◌, ◌<◌, ◌⊎◌, ℕ, pos, zero, suc, true, false, List, codes, slice_index}
use Rattle.std.specs.List.{list_any}
use Rattle.std.specs.Int.{w16, w32, cast_signed, from_be_bytes}
use Rattle.std.specs.Prelude.{nat_eq}
use Rattle.syntax.specs.Spellings.{is_identifier, keywords}
use Rattle.image.specs.declared.names.ConditionName.{ConditionName}
use Rattle.image_reader.specs.Grammar.{has, is_again, is_above, is_taken}

-- the number in so many bytes
abbrev pub number : (size : ℕ) → List ℕ → ℕ
number (suc zero) bytes = slice_index bytes 0
number (suc (suc zero)) bytes = from_be_bytes w16 bytes
number _ bytes = from_be_bytes w32 bytes

-- ---- the sorts of fields

pub data Field : Type 0 where
  letters : Field
  version : Field
  -- whatever stands there
  any : (size : ℕ) → Field
  -- a number from low to high
  ranged : (size low high : ℕ) → Field
  -- a kind in one byte, from 0 up
  kind : (most : ℕ) → Field
  -- the tag of a segment or the number of an instruction in one byte, from 1 up
  tag : (most : ℕ) → Field
  -- which of so many things
  one_of : (count : ℕ) → Field
  -- nothing stands here, so the number is 0
  none : Field
  -- nothing stands here, in a field of numbers up to high
  none_up_to : (high : ℕ) → Field
  -- which event releases the process: there are so many, and earlier processes have these
  event : (events : ℕ) (used : List ℕ) → Field
  -- the number of segments of a tree that nests too deep
  too_deep : Field
  -- an exception number of a handler, behind these
  handled : (earlier : List ℕ) → Field
  -- an operand that the instruction does not have
  no_operand : Field

abbrev pub size_of : Field → ℕ
size_of letters = 4
size_of version = 2
size_of (any size) = size
size_of (ranged size low high) = size
size_of (kind most) = 1
size_of (tag most) = 1
size_of (one_of count) = 2
size_of none = 2
size_of (none_up_to high) = 4
size_of (event events used) = 2
size_of too_deep = 4
size_of (handled earlier) = 2
size_of no_operand = 4

-- The table: these bytes are wrong in the field, with this fault.
abbrev pub Wrong : Field → List ℕ → (fault : ℕ) → Type 0
Wrong letters bytes fault = (fault ≡ 1) × (bytes ≡ codes "RTEU" → ⊥)
Wrong version bytes fault = (fault ≡ 1) × (number 2 bytes ≡ 1 → ⊥) × (number 2 bytes ≡ 2 → ⊥)
Wrong (any size) bytes fault = ⊥
Wrong (ranged size low high) bytes fault = (fault ≡ 4) × ((number size bytes < low) ⊎ (high < number size bytes))
Wrong (kind most) bytes fault = (fault ≡ 6) × (most < number 1 bytes)
Wrong (tag most) bytes fault = (fault ≡ 6) × ((number 1 bytes < 1) ⊎ (most < number 1 bytes))
Wrong (one_of count) bytes fault = (fault ≡ 4) × (count ≤ number 2 bytes)
Wrong none bytes fault = (fault ≡ 7) × (number 2 bytes ≡ 0 → ⊥)
Wrong (none_up_to high) bytes fault = ((fault ≡ 4) × (high < number 4 bytes)) ⊎ ((fault ≡ 7) × (number 4 bytes ≤ high) × (number 4 bytes ≡ 0 → ⊥))
Wrong (event events used) bytes fault = (fault ≡ 4) × ((events ≤ number 2 bytes) ⊎ (list_any (λ e. nat_eq e (number 2 bytes)) used ≡ true))
Wrong too_deep bytes fault = fault ≡ 4
Wrong (handled earlier) bytes fault = (fault ≡ 8) × ((is_above earlier (number 2 bytes) ≡ false) ⊎ (is_taken (number 2 bytes) ≡ false))
Wrong no_operand bytes fault = (fault ≡ 7) × (cast_signed w32 (number 4 bytes) ≡ pos 0 → ⊥)

-- the bytes are right there
abbrev pub Right : Field → List ℕ → Type 0
Right f bytes = (fault : ℕ) → Wrong f bytes fault → ⊥

-- ---- rules over more than one field

pub data Rule : Type 0 where
  -- a name is an identifier, no keyword, and none of those that are taken
  fresh : (taken : List (List ℕ)) (name : List ℕ) → Rule
  -- a condition has another name than the earlier ones of its monitor
  own_name : (earlier : List ConditionName) (condition : ConditionName) → Rule
  -- the address of a handler is 0 where it takes no numbers
  handler : (address numbers : ℕ) → Rule

abbrev pub Breaks : Rule → (fault : ℕ) → Type 0
Breaks (fresh taken name) fault = (fault ≡ 5) × ((is_identifier name ≡ false) ⊎ ((has keywords name ≡ true) ⊎ (has taken name ≡ true)))
Breaks (own_name earlier condition) fault = (fault ≡ 5) × (is_again earlier condition ≡ true)
Breaks (handler address numbers) fault = (fault ≡ 7) × (numbers ≡ 0) × (address ≡ 0 → ⊥)

abbrev pub Keeps : Rule → Type 0
Keeps r = (fault : ℕ) → Breaks r fault → ⊥

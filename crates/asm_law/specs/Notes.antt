-- What is asked of the numbers, the names and the lists of a line that has its form, and the number
-- of the fault that its image would have.
use Rattle.std.specs.Prelude.{◌≡◌, ◌≤◌, ◌<◌, ◌⊎◌, ◌^◌, ℕ, true, false, List, length, Option, Some, None, nat_eq}
use Rattle.std.specs.List.{list_any}
use Rattle.syntax.specs.Spellings.{is_identifier, keywords}
use Rattle.image.specs.declared.names.ConditionName.{ConditionName}
use Rattle.image_reader.specs.Grammar.{has, is_again, is_taken}

pub data Note : Type 0 where
  -- a number from low to high; none is one of 2 ^ 32 or more
  ranged : (low high : ℕ) (number : Option ℕ) → Note
  -- how far an operand is from 0, or from -1
  operand : (far : Option ℕ) → Note
  -- which of so many things
  one_of : (count number : ℕ) → Note
  -- which event releases the process: there are so many, and earlier processes have these
  event : (events : ℕ) (used : List ℕ) (number : ℕ) → Note
  -- a name of at most 63 bytes is an identifier, no keyword, and none of those that are taken
  fresh : (taken : List (List ℕ)) (name : List ℕ) → Note
  -- a condition has another name than the earlier ones of its monitor
  own_name : (earlier : List ConditionName) (condition : ConditionName) → Note
  -- a number that a handler takes, behind this one
  handled : (last number : ℕ) → Note
  -- this is one more line of its kind than there may be
  too_many : Note
  -- there is no process, or an event is of none
  lacks_process : Note

-- The table: this is wrong, with this fault of the image.
abbrev pub Wrong : Note → (fault : ℕ) → Type 0
Wrong (ranged low high None) fault = fault ≡ 4
Wrong (ranged low high (Some n)) fault = (fault ≡ 4) × ((n < low) ⊎ (high < n))
Wrong (operand None) fault = fault ≡ 4
Wrong (operand (Some n)) fault = (fault ≡ 4) × (2 ^ 31 ≤ n)
Wrong (one_of count n) fault = (fault ≡ 4) × (count ≤ n)
Wrong (event events used n) fault = (fault ≡ 4) × ((events ≤ n) ⊎ (list_any (λ e. nat_eq e n) used ≡ true))
Wrong (fresh taken name) fault =
    ((fault ≡ 4) × (63 < length name)) ⊎ ((fault ≡ 5) × ((is_identifier name ≡ false) ⊎ ((has keywords name ≡ true) ⊎ (has taken name ≡ true))))
Wrong (own_name earlier condition) fault = (fault ≡ 5) × (is_again earlier condition ≡ true)
Wrong (handled last n) fault = (fault ≡ 8) × ((n ≤ last) ⊎ (is_taken n ≡ false))
Wrong too_many fault = fault ≡ 4
Wrong lacks_process fault = fault ≡ 4

-- the image would have a fault for it
abbrev pub IsWrong : Note → Type 0
IsWrong x = (fault : ℕ) × Wrong x fault

-- it would have none
abbrev pub Holds : Note → Type 0
Holds x = (fault : ℕ) → Wrong x fault → ⊥

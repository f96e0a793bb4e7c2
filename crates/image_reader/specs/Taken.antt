-- Names and conditions that stand before others, as the code holds them.
use Rattle.std.specs.Prelude.{◌≡◌, ℕ, true, false, List, Option, Some, None}
use Rattle.image.specs.declared.names.ConditionName.{ConditionName}
use Rattle.image_reader.specs.Grammar.{has, is_again, wrong_name}

-- a condition by its monitor and its name
abbrev pub condition_in : ℕ × List ℕ → ConditionName
condition_in pair = record { name = pair.1; mon = pair.0 }

-- the condition, where no earlier one is the same; else nothing
abbrev pub Judges : (earlier : List ConditionName) → ConditionName → Option ConditionName → Type 0
Judges earlier condition None = is_again earlier condition ≡ true
Judges earlier condition (Some same) = (same ≡ condition) × (is_again earlier condition ≡ false)

-- the name, where nothing is wrong with it, so that it is not taken; else nothing
abbrev pub Names : (taken : List (List ℕ)) → (name : List ℕ) → Option (List ℕ) → Type 0
Names taken name None = wrong_name taken name ≡ Some 5
Names taken name (Some same) = (same ≡ name) × (wrong_name taken name ≡ None) × (has taken name ≡ false)

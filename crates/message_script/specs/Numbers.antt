-- Why a word is no tick or no value.
use Rattle.std.specs.Prelude.{ℕ, ◌++◌, ◌&&◌, not, Bool, true, false, List, [], ◌∷◌, length, drop, Option, codes, nat_lt, if◌then◌else◌}
use Rattle.std.specs.List.{list_all}
use Rattle.text_fields.specs.LineFields.{is_digit, value}
use Rattle.message_text.specs.Words.{quoted}
use Rattle.message_script.specs.declared.numbers.Sort.{Sort}
use Rattle.message_script.specs.declared.numbers.Sort.TheVariants.{End, Tick, Value}
use Rattle.message_script.specs.declared.numbers.Flaw.{Flaw}
use Rattle.message_script.specs.declared.numbers.Flaw.TheVariants.{Plus, NoNumber, Minus, LeadingZero, MinusZero, Outside}
use Rattle.message_script.specs.Told.{first, when}
use Rattle.message_script.specs.Words.{begins}

-- one or more digits
unfoldable pub is_digits : List ℕ → Bool
is_digits word = nat_lt 0 (length word) && list_all is_digit word

-- `-` stands before a word
unfoldable pub is_negative : List ℕ → Bool
is_negative word = begins 45 word

-- a word without a `-` before it
unfoldable pub unsigned : List ℕ → List ℕ
unsigned word = if is_negative word then drop 1 word else word

-- a 0 before other digits
unfoldable pub has_leading_zero : List ℕ → Bool
has_leading_zero digits = begins 48 digits && nat_lt 1 (length digits)

unfoldable pub is_tick : Sort → Bool
is_tick End = true
is_tick Tick = true
is_tick Value = false

-- the greatest number, and the greatest below zero without its sign
unfoldable pub most : Sort → (is_negative : Bool) → ℕ
most End is_negative = 1000000000
most Tick is_negative = 999999999
most Value is_negative = if is_negative then 2147483648 else 2147483647

unfoldable pub range : Sort → List ℕ
range End = codes "0 .. 1000000000"
range Tick = codes "0 .. 999999999"
range Value = codes "-2147483648 .. 2147483647"

unfoldable pub sort_name : Sort → List ℕ
sort_name End = codes "the tick "
sort_name Tick = codes "the tick "
sort_name Value = codes "the value "

unfoldable pub is_outside : Sort → (is_negative : Bool) (digits : List ℕ) → Bool
is_outside sort is_negative digits = nat_lt (most sort is_negative) (value digits)

-- what is wrong with the digits of a number
unfoldable pub digits_flaw : Sort → (is_negative : Bool) (digits : List ℕ) → Option Flaw
digits_flaw sort is_negative digits =
    first (when (not (is_digits digits)) NoNumber
    ∷ when (is_tick sort && is_negative) Minus
    ∷ when (has_leading_zero digits) LeadingZero
    ∷ when (is_negative && begins 48 digits) MinusZero
    ∷ when (is_outside sort is_negative digits) Outside
    ∷ [])

-- what is wrong with a number
unfoldable pub number_flaw : Sort → (word : List ℕ) → Option Flaw
number_flaw sort word = first (when (begins 43 word) Plus ∷ digits_flaw sort (is_negative word) (unsigned word) ∷ [])

abbrev pub not_in : (name word range : List ℕ) → List ℕ
not_in name word range = name ++ (quoted word ++ (codes " is not in " ++ range))

-- how it is told
unfoldable pub flaw_sentence : Sort → (word : List ℕ) → Flaw → List ℕ
flaw_sentence sort word Plus = codes "`+` stands before no number"
flaw_sentence sort word NoNumber = quoted word ++ codes " is no whole number"
flaw_sentence sort word Minus = codes "`-` stands before no tick"
flaw_sentence sort word LeadingZero = quoted word ++ codes " has a leading zero"
flaw_sentence sort word MinusZero = codes "`-` stands before no 0"
flaw_sentence sort word Outside = not_in (sort_name sort) word (range sort)

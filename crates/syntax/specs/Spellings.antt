-- What bytes spell: identifiers, keywords, literals and signs.
use Rattle.std.specs.Prelude.{◌≡◌, ℕ, ◌+◌, ◌-◌, ◌*◌, ◌≤◌, Bool, false, ◌||◌, ◌&&◌, ◌==◌, nat_le, List, [], ◌∷◌, length, fold, codes, Some, slice_get, Contains, IsTrue, ◌⊎◌}
use Rattle.std.specs.List.{list_all}
use Rattle.syntax.specs.declared.token.TokenKind.{TokenKind}
use Rattle.syntax.specs.declared.token.TokenKind.TheVariants.{Ident, Keyword, Literal, Sign}

-- the keywords; a keyword's number is its place in this list, from 0
abbrev pub keywords : List (List ℕ)
keywords =
    codes "program" ∷ codes "end" ∷ codes "const" ∷ codes "device" ∷ codes "in" ∷ codes "out" ∷ codes "event" ∷ codes "monitor" ∷
    codes "condition" ∷ codes "entry" ∷ codes "procedure" ∷ codes "function" ∷ codes "returns" ∷ codes "return" ∷ codes "process" ∷ codes "periodic" ∷
    codes "atEvent" ∷ codes "frame" ∷ codes "first" ∷ codes "activation" ∷ codes "atTime" ∷ codes "var" ∷ codes "int" ∷ codes "boolean" ∷
    codes "array" ∷ codes "of" ∷ codes "begin" ∷ codes "handler" ∷ codes "if" ∷ codes "then" ∷ codes "else" ∷ codes "for" ∷
    codes "do" ∷ codes "exit" ∷ codes "when" ∷ codes "put" ∷ codes "get" ∷ codes "wait" ∷ codes "noLongerThan" ∷ codes "signal" ∷
    codes "broadcast" ∷ codes "empty" ∷ codes "except" ∷ codes "assert" ∷ codes "and" ∷ codes "or" ∷ codes "not" ∷ codes "div" ∷
    codes "mod" ∷ codes "true" ∷ codes "false" ∷
    []

-- the signs; a sign's number is its place in this list, from 0
abbrev pub signs : List (List ℕ)
signs =
    codes ":=" ∷ codes ".." ∷ codes "." ∷ codes ":" ∷ codes "," ∷ codes "(" ∷ codes ")" ∷ codes "[" ∷ codes "]" ∷
    codes "+" ∷ codes "-" ∷ codes "*" ∷ codes "=" ∷ codes "<>" ∷ codes "<" ∷ codes "<=" ∷ codes ">" ∷ codes ">=" ∷
    []

-- A to Z and a to z
abbrev pub is_letter : ℕ → Bool
is_letter b = (nat_le 65 b && nat_le b 90) || (nat_le 97 b && nat_le b 122)

-- 0 to 9
abbrev pub is_digit : ℕ → Bool
is_digit b = nat_le 48 b && nat_le b 57

-- a letter, a digit or `_`
abbrev pub is_word : ℕ → Bool
is_word b = is_letter b || is_digit b || b == 95

-- a letter, then letters, digits and `_`
abbrev pub is_identifier : List ℕ → Bool
is_identifier [] = false
is_identifier (b ∷ bs) = is_letter b && list_all is_word bs

-- one digit or more
abbrev pub is_number : List ℕ → Bool
is_number [] = false
is_number (b ∷ bs) = is_digit b && list_all is_digit bs

-- the value of decimal digits
abbrev pub decimal : List ℕ → ℕ
decimal w = fold (λ n d. 10 * n + (d - 48)) 0 w

-- a name has at most this many bytes
abbrev pub longest_name : ℕ
longest_name = 63

-- the greatest literal
abbrev pub greatest_literal : ℕ
greatest_literal = 2147483647

-- the bytes spell a token, the limits of identifiers and literals left aside
abbrev pub Spells : List ℕ → Type 0
Spells w = IsTrue (is_identifier w) ⊎ IsTrue (is_number w) ⊎ Contains signs w

-- the kind of a token that is spelled so, within the limits
abbrev pub HasKind : List ℕ → TokenKind → Type 0
HasKind w Ident = IsTrue (is_identifier w) × (¬ Contains keywords w) × (length w ≤ longest_name)
HasKind w (Keyword at) = slice_get keywords at ≡ Some w
HasKind w (Literal value) = IsTrue (is_number w) × (value ≡ decimal w) × (value ≤ greatest_literal)
HasKind w (Sign at) = slice_get signs at ≡ Some w

-- What is said of bytes that begin no word.
use Rattle.std.specs.Prelude.{ℕ, Bool, List, [], ◌∷◌, ◌&&◌, codes, find, nat_eq, nat_le, if◌then◌else◌}
use Rattle.std.specs.List.{slice_index_or, starts_with}
use Rattle.std.specs.Option.{option_map_or}

-- a hint: the bytes that it is for, and what is said of them
pub record Hint : Type 0 where
  pub bytes : List ℕ
  pub note : List ℕ

abbrev pub hint : (bytes note : List ℕ) → Hint
hint bytes note = record { bytes = bytes; note = note }

-- what is said of more than one
abbrev pub of_comments : List ℕ
of_comments = codes "a comment begins with `%` and goes to the end of its line"

abbrev pub of_braces : List ℕ
of_braces = codes "write words: `begin`, `then` or `do`, and `end` with its name or word"

abbrev pub of_texts : List ℕ
of_texts = codes "there are no characters or texts; devices give and take numbers"

-- bytes that begin no word
unfoldable pub beginnings : List Hint
beginnings =
    hint (codes ";") (codes "no sign stands between statements; leave it out")
    ∷ hint (codes "!=") (codes "write `<>`")
    ∷ hint (codes "!") (codes "write `not`")
    ∷ hint (codes "&") (codes "write `and`")
    ∷ hint (codes "|") (codes "write `or`")
    ∷ hint (codes "//") of_comments
    ∷ hint (codes "/*") of_comments
    ∷ hint (codes "#") of_comments
    ∷ hint (codes "/") (codes "write `div`")
    ∷ hint (codes "{") of_braces
    ∷ hint (codes "}") of_braces
    ∷ hint (codes "\"") of_texts
    ∷ hint (codes "'") of_texts
    ∷ hint (codes "_") (codes "a name begins with a letter")
    ∷ []

-- a byte that is seen as it is
abbrev pub is_visible : ℕ → Bool
is_visible byte = nat_le 33 byte && nat_le byte 126

-- what is said of a byte that begins no word and has no hint of its own
abbrev pub of_byte : (byte : ℕ) → List ℕ
of_byte byte =
    if is_visible byte then codes "no word of the language has it; it may stand in a comment, behind `%`"
    else (if nat_le 128 byte then codes "names have letters a to z and A to Z, digits and `_`; other bytes may stand in a comment, behind `%`"
    else codes "a control byte may stand in a comment only, behind `%`")

-- the first of these bytes; behind the end of a line stands its LF
abbrev pub first_byte : (bytes : List ℕ) → ℕ
first_byte bytes = slice_index_or bytes 0 10

-- what is said of bytes that begin no word
abbrev pub byte_note : (bytes : List ℕ) → List ℕ
byte_note bytes = option_map_or (λ h. h.note) (find (λ h. starts_with nat_eq bytes h.bytes) beginnings) (of_byte (first_byte bytes))

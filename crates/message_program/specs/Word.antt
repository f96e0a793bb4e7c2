-- The word at a place of a text.
use Rattle.std.specs.Prelude.{ℕ, ◌-◌, Bool, false, List, [], ◌∷◌, take, drop, codes, nat_eq, if◌then◌else◌}
use Rattle.std.specs.List.{list_any, prefix_len, starts_with}
use Rattle.message_text.specs.Shown.{line}
use Rattle.syntax.specs.Spellings.{is_digit, is_letter, is_word}
use Rattle.syntax_tree.specs.declared.place.Place.{Place}

-- the bytes of the line of a place, from its column on
abbrev pub bytes_at : (text : List ℕ) (place : Place) → List ℕ
bytes_at text place = drop (place.col - 1) (line text place.line)

-- the signs of two bytes
abbrev pub long_signs : List (List ℕ)
long_signs = codes ":=" ∷ codes "<>" ∷ codes "<=" ∷ codes ">=" ∷ codes ".." ∷ []

-- the first byte passes the test
abbrev pub begins : (test : ℕ → Bool) → List ℕ → Bool
begins test [] = false
begins test (byte ∷ bytes) = test byte

-- how many bytes the word has that begins here: letters, digits and `_` behind a letter; digits; or
-- a sign of two bytes, or of one
abbrev pub word_size : List ℕ → ℕ
word_size bytes =
    if begins is_letter bytes then prefix_len is_word bytes
    else (if begins is_digit bytes then prefix_len is_digit bytes
    else (if list_any (starts_with nat_eq bytes) long_signs then 2 else 1))

-- the word that begins here; nothing at the end of the line
abbrev pub word_at : (bytes : List ℕ) → List ℕ
word_at bytes = take (word_size bytes) bytes

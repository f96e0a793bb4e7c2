-- Words in a line of text.
use Rattle.std.specs.Prelude.{◌≡◌, ◌≢◌, ◌++◌, ◌==◌, ◌<◌, ◌^◌, ℕ, ℤ, pos, negsuc, Bool, not, List, [], ◌∷◌, length}

-- no byte has this value
abbrev pub Lacks : ℕ → List ℕ → Type 0
Lacks stop [] = Unit {0}
Lacks stop (b ∷ bs) = (b ≢ stop) × Lacks stop bs

abbrev pub is_other : ℕ → ℕ → Bool
is_other stop b = not (b == stop)

-- the bytes are those before the first byte of this value, that byte, and those after it
pub record IsCutAt (stop : ℕ) (bytes before after : List ℕ) : Type 0 where
  pub whole : bytes ≡ before ++ stop ∷ after
  pub first : Lacks stop before

-- words with one space between them
abbrev pub spaced : List (List ℕ) → List ℕ
spaced [] = []
spaced (word ∷ []) = word
spaced (word ∷ next ∷ words) = word ++ 32 ∷ spaced (next ∷ words)

-- a word has a byte, and no byte of it is a space or LF
pub record IsWord (word : List ℕ) : Type 0 where
  pub some : 0 < length word
  pub no_space : Lacks 32 word
  pub no_line_feed : Lacks 10 word

-- a number of 32 bits with its sign
abbrev pub Is32 : ℤ → Type 0
Is32 (pos n) = n < 2 ^ 31
Is32 (negsuc n) = n < 2 ^ 31

-- The tokens of a text: the text is blanks, comments and tokens in turn, and each token is the
-- longest spelling at its place.
use Rattle.std.specs.Prelude.{◌≡◌, ℕ, ◌+◌, ◌<◌, ◌≤◌, Bool, not, ◌||◌, ◌==◌, List, [], ◌∷◌, length, take, drop, count_by, IsTrue}
use Rattle.std.specs.List.{prefix_len, suffix_len}
use Rattle.syntax_tree.specs.declared.place.Place.{Place}
use Rattle.syntax.specs.declared.token.Token.{Token}
use Rattle.syntax.specs.Spellings.{Spells, HasKind}

-- LF
abbrev pub is_line_feed : ℕ → Bool
is_line_feed b = b == 10

-- any byte but LF
abbrev pub is_in_line : ℕ → Bool
is_in_line b = not (is_line_feed b)

-- `%`
abbrev pub is_percent : ℕ → Bool
is_percent b = b == 37

-- space, tab, CR or LF
abbrev pub is_blank : ℕ → Bool
is_blank b = b == 32 || b == 9 || b == 13 || is_line_feed b

-- the line of what follows these bytes, from 1
abbrev pub line_after : List ℕ → ℕ
line_after bytes = 1 + count_by is_line_feed bytes

-- the byte of its line, from 1, at which what follows these bytes begins
abbrev pub col_after : List ℕ → ℕ
col_after bytes = 1 + suffix_len is_in_line bytes

-- how many bytes stand before the end of the line
abbrev pub line_len : List ℕ → ℕ
line_len bytes = prefix_len is_in_line bytes

-- the first byte passes the test
abbrev pub Begins : (ℕ → Bool) → List ℕ → Type 0
Begins test [] = ⊥
Begins test (b ∷ bs) = IsTrue (test b)

-- the bytes begin with a blank
abbrev pub BeginsWithBlank : List ℕ → Type 0
BeginsWithBlank bytes = Begins is_blank bytes

-- the first n bytes are a `%` with what follows it on its line
abbrev pub BeginsWithComment : List ℕ → ℕ → Type 0
BeginsWithComment bytes n = Begins is_percent bytes × (n ≡ line_len bytes)

-- the first n bytes spell a token, limits left aside, and no more bytes do
pub record IsLongest (bytes : List ℕ) (n : ℕ) : Type 0 where
  pub within : n ≤ length bytes
  pub spells : Spells (take n bytes)
  pub longest : (m : ℕ) → n < m → m ≤ length bytes → ¬ Spells (take m bytes)

-- the slice of the text that is the token
abbrev pub bytes_of : List ℕ → Token → List ℕ
bytes_of text t = take t.len (drop t.start text)

-- the token is the longest spelling at its place in the text, with its kind, its line and its byte
-- of that line
pub record StandsIn (text : List ℕ) (t : Token) : Type 0 where
  pub longest : IsLongest (drop t.start text) t.len
  pub kind : HasKind (bytes_of text t) t.kind
  pub line : t.line ≡ line_after (take t.start text)
  pub col : t.col ≡ col_after (take t.start text)

-- what a text is cut into
pub data Piece : Type 0 where
  blank : Piece
  comment : (len : ℕ) → Piece
  token : Token → Piece

-- from one byte to another the text is these pieces in turn; bytes count from 0
abbrev pub IsCut : List ℕ → ℕ → ℕ → List Piece → Type 0
IsCut text from to [] = from ≡ to
IsCut text from to (blank ∷ pieces) = BeginsWithBlank (drop from text) × IsCut text (from + 1) to pieces
IsCut text from to (comment len ∷ pieces) = BeginsWithComment (drop from text) len × IsCut text (from + len) to pieces
IsCut text from to (token t ∷ pieces) = (t.start ≡ from) × StandsIn text t × IsCut text (from + t.len) to pieces

-- the tokens among the pieces
abbrev pub tokens_among : List Piece → List Token
tokens_among [] = []
tokens_among (blank ∷ pieces) = tokens_among pieces
tokens_among (comment len ∷ pieces) = tokens_among pieces
tokens_among (token t ∷ pieces) = t ∷ tokens_among pieces

-- a text has at most this many bytes
abbrev pub longest_text : ℕ
longest_text = 1048576

-- the text is not too long, it is pieces in turn, and these are the tokens among them
pub record tokens (text : List ℕ) (toks : List Token) : Type 0 where
  pub short : length text ≤ longest_text
  pub pieces : List Piece
  pub cut : IsCut text 0 (length text) pieces
  pub listed : toks ≡ tokens_among pieces

-- the place is one past the last byte of the text
pub record IsEnd (text : List ℕ) (end : Place) : Type 0 where
  pub line : end.line ≡ line_after text
  pub col : end.col ≡ col_after text

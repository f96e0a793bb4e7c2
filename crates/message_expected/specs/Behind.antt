-- The tokens of a text with one more word behind it.
use Rattle.std.specs.Prelude.{◌≡◌, ◌≤◌, ◌+◌, ℕ, ◌++◌, ◌⊎◌, ◌↔◌, List, [], ◌∷◌, codes, length}
use Rattle.syntax.specs.Spellings.{HasKind}
use Rattle.syntax.specs.Tokens.{col_after, line_after, longest_text, tokens}
use Rattle.syntax.specs.Words.{Tok, toks_of, word_of}
use Rattle.syntax.specs.declared.token.Token.{Token}
use Rattle.syntax.specs.declared.token.TokenKind.{TokenKind}
use Rattle.syntax_parser.specs.Faults.{OpensAt, place}
use Rattle.syntax_reading.specs.Beginning.{BeginsProg}
use Rattle.syntax_tree.specs.declared.place.Place.{Place}
use Rattle.message_expected.specs.Expected.{MayFollow, front}

-- the text up to the end of these tokens, and the word on a line of its own
abbrev pub longer : (text : List ℕ) (before : List Token) (word : List ℕ) → List ℕ
longer text before word = front text before ++ (codes "\n" ++ word)

-- the token of the word there
abbrev pub added : (text : List ℕ) (before : List Token) (kind : TokenKind) (word : List ℕ) → Token
added text before kind word = record {
  kind = kind;
  start = length (front text before) + 1;
  len = length word;
  line = line_after (front text before ++ codes "\n");
  col = col_after (front text before ++ codes "\n");
}

-- the tokens, and then this one, as words
abbrev pub with_word : (text : List ℕ) (before : List Token) (kind : TokenKind) (word : List ℕ) → List (Tok Place)
with_word text before kind word = toks_of text before ++ record { word = word_of kind word; place = place (added text before kind word) } ∷ []

-- the tokens and then the word begin a program, or a token opens a level beyond the last
abbrev pub GoOn : (text : List ℕ) (before : List Token) (kind : TokenKind) (word : List ℕ) → Type 0
GoOn text before kind word =
    BeginsProg (with_word text before kind word) ⊎ ((p : Place) × OpensAt (longer text before word) (before ++ added text before kind word ∷ []) p)

-- of a text with tokens: a word may stand behind the first of them exactly where they and then the
-- word go on, unless the text would be too long with it
abbrev pub FollowsByTokens : Type 0
FollowsByTokens =
    (text : List ℕ) (toks before after : List Token) (kind : TokenKind) (word : List ℕ) → tokens text toks → toks ≡ before ++ after → HasKind word kind
    → length (longer text before word) ≤ longest_text → MayFollow (front text before) word ↔ GoOn text before kind word

-- What can be done at a place.
use Rattle.std.specs.Prelude.{ℕ, Bool, true, false, ◌&&◌, ◌||◌, ◌==◌, ◌+◌, ◌++◌, List, [], ◌∷◌, None, Option, Some, codes, decimal, drop, filter, find, length, map, nat_eq, nat_lt, if◌then◌else◌}
use Rattle.std.specs.List.{prefix_len, starts_with}
use Rattle.std.specs.Str.{str_eq_ignore_ascii_case}
use Rattle.syntax.specs.Spellings.{keywords}
use Rattle.syntax.specs.declared.token.Token.{Token}
use Rattle.syntax.specs.declared.token.keyword.TheConstants as k
use Rattle.syntax.specs.declared.token.sign.TheConstants as s
use Rattle.message_text.specs.Nearest.{nearest}
use Rattle.message_text.specs.Words.{note}
use Rattle.message_expected.specs.Expected.{last}
use Rattle.message_unexpected.specs.Foreign.{word_note}
use Rattle.message_expected.specs.Kinds.{has, kind_of, of_token, same, spelling}
use Rattle.message_unexpected.specs.Parts.{open_parts}
use Rattle.message_unexpected.specs.Rows.{row_remark, word_of}
use Rattle.message_expected.specs.declared.kinds.Kind.{Kind}
use Rattle.message_expected.specs.declared.kinds.Kind.TheVariants.{Deadline, Name, Keyword, Sign}
use Rattle.message_unexpected.specs.declared.rows.Facts.{Facts}

-- ---- a comment that was none

-- a blank, a tab or a CR
unfoldable pub is_gap : ℕ → Bool
is_gap b = b == 32 || (b == 9 || b == 13)

-- bytes whose first one that is no gap begins a comment
abbrev pub begins_comment : List ℕ → Bool
begins_comment bytes = starts_with nat_eq (drop (prefix_len is_gap bytes) bytes) (codes "%")

-- the rest of a line was cut off, where the remainder of a division may have been meant
abbrev pub cut_off : (line : ℕ) → List ℕ
cut_off line = codes "`%` made the rest of line " ++ (decimal line ++ codes " a comment; the remainder is `mod`")

-- the last token stands on an earlier line, with a comment behind it, and `mod` is expected
abbrev pub is_cut_off : (text : List ℕ) (line : ℕ) (found : List Kind) (before : Token) → Bool
is_cut_off text line found before = nat_lt before.line line && (has found (Keyword k.MOD) && begins_comment (drop (before.start + before.len) text))

unfoldable pub comment_remark : (text : List ℕ) (line : ℕ) (found : List Kind) (before : Option Token) → List ℕ
comment_remark text line found None = []
comment_remark text line found (Some before) = if is_cut_off text line found before then cut_off before.line else []

-- ---- names that are nearly words

abbrev pub is_lettered : Kind → Bool
is_lettered Deadline = true
is_lettered (Keyword at) = true
is_lettered kind = false

-- the words of letters that are expected
abbrev pub candidates : (found : List Kind) → List (List ℕ)
candidates found = map spelling (filter is_lettered found)

abbrev pub near : Option (List ℕ) → List ℕ
near None = []
near (Some name) = codes "the nearest of these is `" ++ (name ++ codes "`")

-- a name for a word that is expected
unfoldable pub nearest_remark : (text : List ℕ) (found : List Kind) (word : Option Token) → List ℕ
nearest_remark text found word = if same Name (kind_of word) then near (nearest (word_of text word) (candidates found)) else []

abbrev pub in_its_case : Option (List ℕ) → List ℕ
in_its_case None = []
in_its_case (Some keyword) = codes "the language writes `" ++ (keyword ++ codes "`")

-- a name that is a keyword in another case
unfoldable pub case_remark : (text : List ℕ) (before : Option Token) → List ℕ
case_remark text before = if same Name (kind_of before) then in_its_case (find (str_eq_ignore_ascii_case (word_of text before)) keywords) else []

-- ---- words of other languages

-- the one, or the other where the one says nothing
abbrev pub otherwise : (one other : List ℕ) → List ℕ
otherwise one other = if length one == 0 then other else one

-- the first of the tokens on a line
abbrev pub first_on : (line : ℕ) (toks : List Token) → Option Token
first_on line toks = find (λ t. t.line == line) toks

-- the line of a token, or this line where there is none
abbrev pub line_of : (line : ℕ) → Option Token → ℕ
line_of line None = line
line_of line (Some t) = t.line

-- the word at the place or before it, or the first of their lines
unfoldable pub foreign_remark : (text : List ℕ) (line : ℕ) (before : List Token) (word : Option Token) → List ℕ
foreign_remark text line before word =
    otherwise (word_note (word_of text word)) (otherwise (word_note (word_of text (last before)))
    (otherwise (word_note (word_of text (first_on line before))) (word_note (word_of text (first_on (line_of line (last before)) before)))))

-- ---- the words at the place

-- the one token ends where the other begins
abbrev pub touch : Option Token → Option Token → Bool
touch None word = false
touch (Some before) None = false
touch (Some before) (Some word) = word.start == before.start + before.len

-- the word is an `if` behind an `else`
abbrev pub is_pair : (is_behind_else : Bool) → Kind → Bool
is_pair is_behind_else kind = is_behind_else && same (Keyword k.IF) kind

-- among these tokens stands an `if` right behind an `else`
unfoldable pub has_pair : (is_behind_else : Bool) → List Token → Bool
has_pair is_behind_else [] = false
has_pair is_behind_else (t ∷ toks) = is_pair is_behind_else (of_token t.kind) || has_pair (same (Keyword k.ELSE) (of_token t.kind)) toks

-- the token stands before another one
unfoldable pub is_earlier : (other t : Token) → Bool
is_earlier other t = nat_lt t.start other.start

-- the tokens from another one on
abbrev pub from : (opener : Token) (toks : List Token) → List Token
from opener toks = drop (prefix_len (is_earlier opener) toks) toks

-- an `if` is open, in which one stands right behind an `else`
abbrev pub has_else_if : (before : List Token) → Option Token → Bool
has_else_if before None = false
has_else_if before (Some opener) = same (Keyword k.IF) (of_token opener.kind) && has_pair false (from opener before)

unfoldable pub facts_at : (line : ℕ) (before : List Token) (word behind opener : Option Token) → Facts
facts_at line before word behind opener = record {
  word = kind_of word;
  before = kind_of (last before);
  is_touching = touch (last before) word;
  is_on_line = line_of line (last before) == line;
  is_assigned = same (Sign s.ASSIGN) (kind_of behind);
  has_else_if = has_else_if before opener;
}

-- ---- the first remark

-- what the words at the place say, where they are none of other languages
unfoldable pub place_remark : (text : List ℕ) (line : ℕ) (before : List Token) (word behind : Option Token) (found : List Kind) → List ℕ
place_remark text line before word behind found =
    otherwise (foreign_remark text line before word) (row_remark text word (last before) found (facts_at line before word behind (last (open_parts before))))

unfoldable pub later_remark : (text : List ℕ) (line : ℕ) (before : List Token) (word behind : Option Token) (found : List Kind) → List ℕ
later_remark text line before word behind found = otherwise (case_remark text (last before)) (place_remark text line before word behind found)

unfoldable pub word_remark : (text : List ℕ) (line : ℕ) (before : List Token) (word behind : Option Token) (found : List Kind) → List ℕ
word_remark text line before word behind found = otherwise (nearest_remark text found word) (later_remark text line before word behind found)

-- of a comment, of names that are nearly words, of words of other languages, of the words at the
-- place: the first that says something
unfoldable pub remark : (text : List ℕ) (line : ℕ) (before : List Token) (word behind : Option Token) (found : List Kind) → List ℕ
remark text line before word behind found = otherwise (comment_remark text line found (last before)) (word_remark text line before word behind found)

-- the note of it, where there is something to say
abbrev pub note_of : (said : List ℕ) → List ℕ
note_of said = if length said == 0 then [] else note said

unfoldable pub remark_note : (text : List ℕ) (line : ℕ) (before : List Token) (word behind : Option Token) (found : List Kind) → List ℕ
remark_note text line before word behind found = note_of (remark text line before word behind found)

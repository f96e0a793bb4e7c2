-- What is still open behind some tokens, and the note of it.
use Rattle.std.specs.Prelude.{ℕ, Bool, false, ◌&&◌, ◌||◌, ◌++◌, ◌-◌, List, [], ◌∷◌, None, Option, Some, codes, find, length, nat_lt, take, if◌then◌else◌}
use Rattle.syntax.specs.Tokens.{bytes_of}
use Rattle.syntax.specs.declared.token.Token.{Token}
use Rattle.syntax.specs.declared.token.keyword.TheConstants as k
use Rattle.syntax.specs.declared.token.sign.TheConstants as s
use Rattle.message_text.specs.Shown.{show}
use Rattle.message_text.specs.Words.{note}
use Rattle.message_expected.specs.Expected.{last}
use Rattle.message_expected.specs.Kinds.{has, kind_of, of_token, same}
use Rattle.message_expected.specs.declared.kinds.Kind.{Kind}
use Rattle.message_expected.specs.declared.kinds.Kind.TheVariants.{End, Keyword, Sign}

-- the words that open a part of a program; it is closed by `end`, `)` or `]`
abbrev pub openers : List Kind
openers =
    Keyword k.PROGRAM ∷ Keyword k.MONITOR ∷ Keyword k.PROCESS ∷ Keyword k.PROCEDURE ∷ Keyword k.FUNCTION ∷ Keyword k.IF ∷ Keyword k.FOR ∷ Sign s.LEFT_PAREN ∷ Sign s.LEFT_BRACKET ∷ []

-- the brackets that open a part
abbrev pub left_brackets : List Kind
left_brackets = Sign s.LEFT_PAREN ∷ Sign s.LEFT_BRACKET ∷ []

-- the brackets that close one
abbrev pub right_brackets : List Kind
right_brackets = Sign s.RIGHT_PAREN ∷ Sign s.RIGHT_BRACKET ∷ []

-- what is open behind one more token: the one behind `end`, and a bracket, close the last part
unfoldable pub turn : (is_behind_end : Bool) (t : Token) (opened : List Token) → List Token
turn is_behind_end t opened =
    if is_behind_end || has right_brackets (of_token t.kind) then take (length opened - 1) opened
    else (if has openers (of_token t.kind) then opened ++ t ∷ [] else opened)

-- what is open behind some tokens, from what was open before them
unfoldable pub open_behind : (is_behind_end : Bool) (toks opened : List Token) → List Token
open_behind is_behind_end [] opened = opened
open_behind is_behind_end (t ∷ toks) opened = open_behind (same (Keyword k.END) (of_token t.kind)) toks (turn is_behind_end t opened)

-- the tokens that opened what is open behind these, in their order
abbrev pub open_parts : (before : List Token) → List Token
open_parts before = open_behind false before []

-- words before which an `end` may be missing
abbrev pub enders : List Kind
enders =
    End ∷ Keyword k.PROGRAM ∷ Keyword k.END ∷ Keyword k.CONST ∷ Keyword k.DEVICE ∷ Keyword k.EVENT ∷ Keyword k.MONITOR ∷ Keyword k.CONDITION ∷ Keyword k.ENTRY
    ∷ Keyword k.PROCEDURE ∷ Keyword k.FUNCTION ∷ Keyword k.RETURN ∷ Keyword k.PROCESS ∷ Keyword k.VAR ∷ Keyword k.BEGIN ∷ Keyword k.HANDLER ∷ Keyword k.ELSE ∷ []

-- that a part is open is told where it is a bracket's, behind `end`, and where an `end` may be
-- missing
abbrev pub is_told : (part before word : Kind) (found : List Kind) → Bool
is_told part before word found =
    has left_brackets part || (same (Keyword k.END) before || (has found (Keyword k.END) && has enders word))

-- the name behind the word that opens a part
abbrev pub name_behind : (text : List ℕ) → Option Token → List ℕ
name_behind text None = []
name_behind text (Some t) = codes " " ++ bytes_of text t

-- the first of these tokens behind another one
abbrev pub next : (before : List Token) (opener : Token) → Option Token
next before opener = find (λ t. nat_lt opener.start t.start) before

-- what closes the part
unfoldable pub closer : (text : List ℕ) (before : List Token) (opener : Token) → List ℕ
closer text before opener =
    if same (Sign s.LEFT_PAREN) (of_token opener.kind) then codes ")"
    else (if same (Sign s.LEFT_BRACKET) (of_token opener.kind) then codes "]"
    else (if same (Keyword k.IF) (of_token opener.kind) then codes "end if"
    else (if same (Keyword k.FOR) (of_token opener.kind) then codes "end for"
    else codes "end" ++ name_behind text (next before opener))))

-- the line of a token, with carets below it
abbrev pub show_token : (text : List ℕ) → Token → List ℕ
show_token text t = show text t.line t.col t.len

-- the line of the last of some tokens, where it stands before this one
abbrev pub show_before : (text : List ℕ) (line : ℕ) → Option Token → List ℕ
show_before text line None = []
show_before text line (Some t) = if nat_lt t.line line then show_token text t else []

-- that a part is open, and what closes it
abbrev pub part_sentence : (text : List ℕ) (before : List Token) (opener : Token) → List ℕ
part_sentence text before opener = codes "still open, up to `" ++ (closer text before opener ++ codes "`:")

-- the note of a part that is open
abbrev pub part_note : (text : List ℕ) (before : List Token) (opener : Token) → List ℕ
part_note text before opener = note (part_sentence text before opener) ++ show_token text opener

-- the note of the last part that is open
abbrev pub note_of_part : (text : List ℕ) (before : List Token) (word : Kind) (found : List Kind) → Option Token → List ℕ
note_of_part text before word found None = []
note_of_part text before word found (Some opener) =
    if is_told (of_token opener.kind) (kind_of (last before)) word found then part_note text before opener else []

-- the note of what is still open behind these tokens, where a word of this kind stands next
unfoldable pub open_note : (text : List ℕ) (before : List Token) (word : Kind) (found : List Kind) → List ℕ
open_note text before word found = note_of_part text before word found (last (open_parts before))

-- The notes at some places.
use Rattle.std.proofs.Common.{refl}
use Rattle.std.specs.Prelude.{◌≡◌, ◌+◌, ℕ, List, [], ◌∷◌, codes}
use Rattle.syntax.specs.declared.token.Token.{Token}
use Rattle.syntax.specs.declared.token.TokenKind.{TokenKind}
use Rattle.syntax.specs.declared.token.TokenKind.TheVariants.{Ident, Literal}
use Rattle.syntax.specs.declared.token.keyword.TheConstants as k
use Rattle.syntax.specs.declared.token.sign.TheConstants as s
use Rattle.message_expected.specs.Groups.{expectations, groups}
use Rattle.message_expected.specs.Notes.{expected_note}
use Rattle.message_expected.specs.declared.kinds.Kind.{Kind}
use Rattle.message_expected.specs.declared.kinds.Kind.TheVariants.{Keyword, Sign}

-- a token of one byte
abbrev pub token : TokenKind → (start : ℕ) → Token
token kind start = record { kind = kind; start = start; len = 1; line = 1; col = start + 1 }

-- behind a name that begins a statement
pub name_first : expected_note (codes "x = 1") (token Ident 0 ∷ []) (Sign s.ASSIGN ∷ Sign s.DOT ∷ Sign s.LEFT_PAREN ∷ Sign s.LEFT_BRACKET ∷ [])
    ≡ codes "        = after `x` expected `:=`, `.`, `(` or `[`\n"
unfolding expected_note expectations groups
name_first = refl

-- the kinds behind an operand in parentheses
abbrev pub behind_operand : List Kind
behind_operand =
    Keyword k.AND ∷ Keyword k.OR ∷ Keyword k.DIV ∷ Keyword k.MOD ∷ Sign s.RIGHT_PAREN ∷ Sign s.PLUS ∷ Sign s.MINUS ∷ Sign s.TIMES ∷ Sign s.EQUAL ∷ Sign s.UNEQUAL ∷ Sign s.LESS
    ∷ Sign s.LESS_EQUAL ∷ Sign s.GREATER ∷ Sign s.GREATER_EQUAL ∷ []

pub operand : expected_note (codes "(7 % 3)") (token (Literal 7) 1 ∷ []) behind_operand ≡ codes "        = after `7` expected an operator, a comparison or `)`\n"
unfolding expected_note expectations groups
operand = refl

-- nothing stands before
pub at_start : expected_note (codes "a") [] (Keyword k.PROGRAM ∷ []) ≡ codes "        = expected `program` at the start\n"
unfolding expected_note expectations groups
at_start = refl

-- The notes of what is still open, at some places.
use Rattle.std.proofs.Common.{refl}
use Rattle.std.specs.Fmt.{digits}
use Rattle.std.specs.Prelude.{◌≡◌, ◌+◌, ℕ, List, [], ◌∷◌, codes}
use Rattle.syntax.specs.declared.token.Token.{Token}
use Rattle.syntax.specs.declared.token.TokenKind.TheVariants as kind
use Rattle.syntax.specs.declared.token.TokenKind.TheVariants.{Ident, Literal}
use Rattle.syntax.specs.declared.token.keyword.TheConstants as k
use Rattle.syntax.specs.declared.token.sign.TheConstants as s
use Rattle.message_text.specs.Shown.{show}
use Rattle.message_expected.proofs.Examples.{behind_operand, token}
use Rattle.message_expected.specs.Expected.{last}
use Rattle.message_expected.specs.declared.kinds.Kind.TheVariants.{End, Keyword}
use Rattle.message_unexpected.specs.Parts.{closer, open_behind, open_note, show_before, turn}

-- a keyword
abbrev word_at : (at start len : ℕ) → Token
word_at at start len = record { kind = kind.Keyword at; start = start; len = len; line = 1; col = start + 1 }

-- an expression that a comment cuts off
abbrev cut_off : List ℕ
cut_off = codes "(7 % 3)\nend p\n"

abbrev before_end : List Token
before_end = token (kind.Sign s.LEFT_PAREN) 0 ∷ token (Literal 7) 1 ∷ []

pub operand_above : show_before cut_off 2 (last before_end) ≡ codes "      1 | (7 % 3)\n        |  ^\n"
unfolding show digits
operand_above = refl

pub still_open : open_note cut_off before_end (Keyword k.END) behind_operand ≡ codes "        = still open, up to `)`:\n      1 | (7 % 3)\n        | ^\n"
unfolding open_note open_behind turn closer show digits
still_open = refl

-- the end of a text inside a conditional statement
pub no_end_if : open_note (codes "if b") (word_at k.IF 0 2 ∷ token Ident 3 ∷ []) End (Keyword k.END ∷ []) ≡ codes "        = still open, up to `end if`:\n      1 | if b\n        | ^^\n"
unfolding open_note open_behind turn closer show digits
no_end_if = refl

-- the end of a text inside a monitor
pub no_end_name : open_note (codes "monitor m") (word_at k.MONITOR 0 7 ∷ token Ident 8 ∷ []) End (Keyword k.END ∷ [])
    ≡ codes "        = still open, up to `end m`:\n      1 | monitor m\n        | ^^^^^^^\n"
unfolding open_note open_behind turn closer show digits
no_end_name = refl

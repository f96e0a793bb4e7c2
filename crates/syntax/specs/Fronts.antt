-- What stands at the front of some bytes.
use Rattle.std.specs.Prelude.{ℕ, Bool, not, ◌||◌, List, take}
use Rattle.syntax.specs.declared.front.Front.{Front}
use Rattle.syntax.specs.declared.front.Front.TheVariants.{Blank, Comment, Token}
use Rattle.syntax.specs.declared.front.Cause.{Cause}
use Rattle.syntax.specs.declared.front.Cause.TheVariants.{Byte, Literal, Ident}
use Rattle.syntax.specs.Spellings.{HasKind, is_letter, is_digit}
use Rattle.syntax.specs.Tokens.{BeginsWithBlank, BeginsWithComment, IsLongest, is_blank, is_percent}
use Rattle.syntax.specs.Faults.{BeginsNothing, BeginsWithLargeLiteral, BeginsWithLongName}

-- no letter, no digit, no blank and no `%`
abbrev pub is_other : ℕ → Bool
is_other b = not (is_letter b || is_digit b || is_blank b || is_percent b)

-- the bytes begin with this piece
abbrev pub BeginsWith : List ℕ → Front → Type 0
BeginsWith bytes Blank = BeginsWithBlank bytes
BeginsWith bytes (Comment len) = BeginsWithComment bytes len
BeginsWith bytes (Token kind len) = IsLongest bytes len × HasKind (take len bytes) kind

-- the bytes begin with none, and this is the cause
abbrev pub IsBad : List ℕ → Cause → Type 0
IsBad bytes Byte = BeginsNothing bytes
IsBad bytes Literal = BeginsWithLargeLiteral bytes
IsBad bytes Ident = BeginsWithLongName bytes

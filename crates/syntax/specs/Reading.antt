-- How far a text was read.
use Rattle.std.specs.Prelude.{◌≡◌, ℕ, ◌≤◌, List, length, take}
use Rattle.syntax.specs.declared.fault.LexFault.{LexFault}
use Rattle.syntax.specs.declared.fault.LexFault.TheVariants as f
use Rattle.syntax.specs.declared.front.Cause.{Cause}
use Rattle.syntax.specs.declared.front.Cause.TheVariants as c
use Rattle.syntax.specs.declared.lexer.Spot.{Spot}
use Rattle.syntax.specs.declared.token.Token.{Token}
use Rattle.syntax.specs.Tokens.{Piece, IsCut, tokens_among, line_after, col_after}

-- a byte of the text, or its end, with its place
pub record IsSpot (text : List ℕ) (spot : Spot) : Type 0 where
  pub within : spot.at ≤ length text
  pub line : spot.line ≡ line_after (take spot.at text)
  pub col : spot.col ≡ col_after (take spot.at text)

-- up to the spot the text is pieces in turn, and these are their tokens
pub record IsRead (text : List ℕ) (spot : Spot) (toks : List Token) : Type 0 where
  pub place : IsSpot text spot
  pub pieces : List Piece
  pub cut : IsCut text 0 spot.at pieces
  pub listed : toks ≡ tokens_among pieces

-- the fault of a cause that stands at this line and byte
abbrev pub fault_of : Cause → ℕ → ℕ → LexFault
fault_of c.Byte line col = f.Byte line col
fault_of c.Literal line col = f.Literal line col
fault_of c.Ident line col = f.Ident line col

-- Why a text has no tokens: where the first piece stands that is none, and what is wrong with it.
use Rattle.std.specs.Prelude.{◌≡◌, ℕ, ◌<◌, ◌≤◌, List, length, take, drop, IsTrue}
use Rattle.syntax.specs.declared.fault.LexFault.{LexFault}
use Rattle.syntax.specs.declared.fault.LexFault.TheVariants.{Byte, Literal, Ident, Long, Memory}
use Rattle.syntax.specs.Spellings.{Spells, is_identifier, is_number, decimal, longest_name, greatest_literal}
use Rattle.syntax.specs.Tokens.{BeginsWithBlank, BeginsWithComment, IsLongest, Piece, IsCut, line_after, col_after, longest_text}

-- the first byte begins no blank, no comment and no token
pub record BeginsNothing (bytes : List ℕ) : Type 0 where
  pub some : 0 < length bytes
  pub no_blank : ¬ BeginsWithBlank bytes
  pub no_comment : (n : ℕ) → ¬ BeginsWithComment bytes n
  pub no_token : (n : ℕ) → ¬ Spells (take n bytes)

-- the longest token is a literal above the greatest
pub record BeginsWithLargeLiteral (bytes : List ℕ) : Type 0 where
  pub len : ℕ
  pub longest : IsLongest bytes len
  pub literal : IsTrue (is_number (take len bytes))
  pub large : greatest_literal < decimal (take len bytes)

-- the longest token is an identifier of too many bytes
pub record BeginsWithLongName (bytes : List ℕ) : Type 0 where
  pub len : ℕ
  pub longest : IsLongest bytes len
  pub identifier : IsTrue (is_identifier (take len bytes))
  pub long : longest_name < len

-- the text is pieces in turn up to this line and byte, where something bad begins
pub record HasFault (Bad : List ℕ → Type 0) (text : List ℕ) (line col : ℕ) : Type 0 where
  pub short : length text ≤ longest_text
  pub at : ℕ
  pub pieces : List Piece
  pub cut : IsCut text 0 at pieces
  pub bad : Bad (drop at text)
  pub line_is : line ≡ line_after (take at text)
  pub col_is : col ≡ col_after (take at text)

-- the text has this fault; want of memory is no fault of a text
abbrev pub Faulty : List ℕ → LexFault → Type 0
Faulty text (Byte line col) = HasFault BeginsNothing text line col
Faulty text (Literal line col) = HasFault BeginsWithLargeLiteral text line col
Faulty text (Ident line col) = HasFault BeginsWithLongName text line col
Faulty text Long = longest_text < length text
Faulty text (Memory _) = ⊥

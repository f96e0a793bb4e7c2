-- Where a fault stands.
use Rattle.std.specs.Prelude.{◌≡◌, ℕ, List, ◌∷◌, ◌++◌, Some, slice_get, ◌⊎◌}
use Rattle.syntax_tree.specs.declared.place.Place.{Place}
use Rattle.syntax.specs.declared.token.Token.{Token}
use Rattle.syntax.specs.declared.token.Tokens.{Tokens}
use Rattle.syntax.specs.Words.{toks_of}
use Rattle.syntax.specs.Opening.{OpensProg}
use Rattle.syntax_reading.specs.Beginning.{BeginsProg, Stop}
use Rattle.syntax_parser.specs.declared.fault.SyntaxFault.{SyntaxFault}
use Rattle.syntax_parser.specs.declared.fault.SyntaxFault.TheVariants.{Syntax, Nesting, Memory}

-- the place of the token
abbrev pub place : Token → Place
place t = record { line = t.line; col = t.col }

-- the place is that of a token, or the end of the text
abbrev pub IsPlaceIn : Tokens → Place → Type 0
IsPlaceIn toks p = ((at : ℕ) × (t : Token) × (slice_get toks.list at ≡ Some t) × (p ≡ place t)) ⊎ (p ≡ toks.end)

abbrev pub StandsIn : Tokens → SyntaxFault → Type 0
StandsIn toks (Syntax p) = IsPlaceIn toks p
StandsIn toks (Nesting p) = IsPlaceIn toks p
StandsIn toks (Memory _) = Unit {0}

-- at this place stands the token that opens a level beyond the last: the tokens before it begin a
-- program, and all levels are open there
pub record OpensAt (text : List ℕ) (toks : List Token) (p : Place) : Type 0 where
  pub before : List Token
  pub token : Token
  pub after : List Token
  pub all : toks ≡ before ++ token ∷ after
  pub opens : OpensProg (toks_of text toks) (toks_of text (token ∷ after))
  pub stands : p ≡ place token

-- the place of a fault of the grammar: that of the token with which the tokens read no longer begin
-- a program, or the text's end, where all of them begin one
abbrev pub StopsAt : List ℕ → Tokens → Place → Type 0
StopsAt text toks p = ((s : Stop text toks.list) × (p ≡ place s.token)) ⊎ (BeginsProg (toks_of text toks.list) × (p ≡ toks.end))

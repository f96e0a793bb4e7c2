-- What holds of the tokens of every text.
use Rattle.std.specs.Prelude.{◌≡◌, ℕ, ◌+◌, ◌≤◌, List, length, All, AllPairs}
use Rattle.syntax.specs.declared.fault.LexFault.{LexFault}
use Rattle.syntax.specs.declared.token.Token.{Token}
use Rattle.syntax.specs.Tokens.{tokens, StandsIn}
use Rattle.syntax.specs.Faults.{Faulty}

-- a text has at most one list of tokens
abbrev pub HasOneList : Type 0
HasOneList = (text : List ℕ) (toks others : List Token) → tokens text toks → tokens text others → toks ≡ others

-- a text that has tokens has no fault
abbrev pub HasTokensOrFault : Type 0
HasTokensOrFault = (text : List ℕ) (toks : List Token) (fault : LexFault) → tokens text toks → Faulty text fault → ⊥

-- a text has at most one fault
abbrev pub HasOneFault : Type 0
HasOneFault = (text : List ℕ) (fault other : LexFault) → Faulty text fault → Faulty text other → fault ≡ other

-- a token has a byte, and its span lies within the text
pub record HasSpan (text : List ℕ) (t : Token) : Type 0 where
  pub some : 1 ≤ t.len
  pub within : t.start + t.len ≤ length text

-- the first token's span ends where the second's begins, or before
abbrev pub IsBefore : Token → Token → Type 0
IsBefore t u = t.start + t.len ≤ u.start

-- each token stands in the text, and they stand one after another
pub record StandInOrder (text : List ℕ) (toks : List Token) : Type 0 where
  pub stand : All (StandsIn text) toks
  pub spans : All (HasSpan text) toks
  pub order : AllPairs IsBefore toks

-- the tokens of a text stand in it one after another
abbrev pub TokensStandInOrder : Type 0
TokensStandInOrder = (text : List ℕ) (toks : List Token) → tokens text toks → StandInOrder text toks

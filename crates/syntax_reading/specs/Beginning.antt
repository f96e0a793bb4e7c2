-- The beginnings of programs, and the token at which they end.
use Rattle.std.specs.Prelude.{◌≡◌, ℕ, ◌+◌, List, [], ◌∷◌, ◌++◌}
use Rattle.syntax_tree.specs.Placed.{Prog}
use Rattle.syntax.specs.declared.token.Token.{Token}
use Rattle.syntax.specs.Words.{Tok, toks_of}
use Rattle.syntax.specs.Grammar.{MOST_LEVELS, IsProgWithin}

-- some list of tokens that starts with these has a tree, with at most this many levels of nesting
abbrev pub BeginsWithin : {P : Type 0} → (depth : ℕ) → List (Tok P) → Type 0
BeginsWithin {P} depth ts = (us : List (Tok P)) × (g : Prog P) × IsProgWithin depth g (ts ++ us) []

-- the limit on nesting left aside: with the most levels, or however many more
abbrev pub BeginsProg : {P : Type 0} → List (Tok P) → Type 0
BeginsProg ts = (more : ℕ) × BeginsWithin (MOST_LEVELS + more) ts

-- the token with which the tokens read no longer begin a program: those before it do, and with it
-- they do not
pub record Stop (text : List ℕ) (toks : List Token) : Type 0 where
  pub before : List Token
  pub token : Token
  pub after : List Token
  pub all : toks ≡ before ++ token ∷ after
  pub begins : BeginsProg (toks_of text before)
  pub stops : BeginsProg (toks_of text (before ++ token ∷ [])) → ⊥

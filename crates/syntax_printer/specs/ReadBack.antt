-- What is read of a canonical text.
use Rattle.std.specs.Prelude.{◌≡◌, ℕ, ◌≤◌, List, length, All}
use Rattle.syntax_tree.specs.declared.place.Place.{Place}
use Rattle.syntax_tree.specs.Placed.{Prog}
use Rattle.syntax_tree.specs.Bare.{bare}
use Rattle.syntax.specs.declared.token.Token.{Token}
use Rattle.syntax.specs.Spellings.{HasKind}
use Rattle.syntax.specs.Tokens.{bytes_of, longest_text}
use Rattle.syntax.specs.Grammar.{tree}
use Rattle.syntax_printer.specs.Canonical.{canonical}

-- each token is of the kind that its bytes spell
abbrev pub AreSpelled : List ℕ → List Token → Type 0
AreSpelled text toks = All (λ t. HasKind (bytes_of text t) t.kind) toks

-- the tree is that of some tokens, and its canonical text is not too long
pub record IsPrinted (g : Prog Place) : Type 0 where
  pub text : List ℕ
  pub toks : List Token
  pub spelled : AreSpelled text toks
  pub reads : tree text toks g
  pub short : length (canonical (bare g)) ≤ longest_text

-- the tokens have this tree, apart from places
pub record HasTree (text : List ℕ) (toks : List Token) (g : Prog Place) : Type 0 where
  pub h : Prog Place
  pub reads : tree text toks h
  pub same : bare h ≡ bare g

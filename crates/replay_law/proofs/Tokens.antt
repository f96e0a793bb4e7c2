-- The names among the tokens of a text are identifiers.
use Rattle.std.proofs.Common.{ℕ, List, [], ◌∷◌, ◌++◌, subst}
use Rattle.std.specs.Prelude.{All}
use Rattle.std.proofs.lemmas.List.Elements.{All-head, All-tail}
use Rattle.syntax_tree.specs.Plain.{Name}
use Rattle.syntax_tree.specs.declared.place.Place.{Place}
use Rattle.syntax.specs.declared.token.Token.{Token}
use Rattle.syntax.specs.declared.token.TokenKind.{TokenKind}
use Rattle.syntax.specs.declared.token.TokenKind.TheVariants as kind
use Rattle.syntax.specs.Spellings.{HasKind}
use Rattle.syntax.specs.Tokens.{StandsIn, bytes_of}
use Rattle.syntax.specs.Words.{Word, named, number, keyword, sign, Tok, word_of, toks_of}
use Rattle.syntax.specs.ExprGrammar.{at}
use Rattle.syntax_reading.proofs.Tails.{IsEnd}
use Rattle.replay_law.specs.Words.{IsIdentifier}

-- a word that is a name is one
abbrev WordIsNamed : Word → Type 0
WordIsNamed (named n) = IsIdentifier n
WordIsNamed (number n) = Unit {0}
WordIsNamed (keyword n) = Unit {0}
WordIsNamed (sign n) = Unit {0}

-- the names among the tokens are
abbrev pub AllNamed : List (Tok Place) → Type 0
AllNamed [] = Unit {0}
AllNamed (t ∷ ts) = WordIsNamed t.word × AllNamed ts

word_named : (bytes : List ℕ) (k : TokenKind) → HasKind bytes k → WordIsNamed (word_of k bytes)
word_named bytes kind.Ident h = h
word_named bytes (kind.Keyword n) h = tt
word_named bytes (kind.Literal n) h = tt
word_named bytes (kind.Sign n) h = tt

pub tokens_named : (text : List ℕ) (toks : List Token) → All (StandsIn text) toks → AllNamed (toks_of text toks)
tokens_named text [] stand = tt
tokens_named text (t ∷ ts) stand =
    (word_named (bytes_of text t) t.kind (All-head (StandsIn text) t ts stand).kind, tokens_named text ts (All-tail (StandsIn text) t ts stand))

behind : (front us : List (Tok Place)) → AllNamed (front ++ us) → AllNamed us
behind [] us all = all
behind (t ∷ front) us all = behind front us all.1

-- so are those that are left behind a part
pub left : (ts us : List (Tok Place)) → IsEnd ts us → AllNamed ts → AllNamed us
left ts us end all = behind end.front us (subst AllNamed end.is all)

-- and the name that is the first token
pub first : (n : Name) (p : Place) (ts us : List (Tok Place)) → at (named n) p ts us → AllNamed ts → IsIdentifier n
first n p ts us took all = (subst AllNamed took all).0

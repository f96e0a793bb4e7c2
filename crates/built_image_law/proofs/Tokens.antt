-- The names among the tokens of a text are short.
use Rattle.std.proofs.Common.{ℕ, List, [], ◌∷◌, ◌++◌, subst}
use Rattle.std.specs.Prelude.{All}
use Rattle.std.proofs.lemmas.List.Elements.{All-head, All-tail}
use Rattle.syntax_tree.specs.Plain.{Name}
use Rattle.syntax_tree.specs.declared.place.Place.{Place}
use Rattle.syntax.specs.declared.token.Token.{Token}
use Rattle.syntax.specs.declared.token.TokenKind.{TokenKind}
use Rattle.syntax.specs.declared.token.TokenKind.TheVariants as kind
use Rattle.syntax.specs.Spellings.{HasKind}
use Rattle.syntax.specs.Tokens.{StandsIn, bytes_of}
use Rattle.syntax.specs.Words.{Word, named, number, keyword, sign, Tok, word_of, toks_of}
use Rattle.syntax.specs.ExprGrammar.{at}
use Rattle.syntax_reading.proofs.Tails.{IsEnd}
use Rattle.built_image_law.specs.Short.{IsShort}

-- a word that is a name is short
abbrev WordIsShort : Word → Type 0
WordIsShort (named n) = IsShort n
WordIsShort (number n) = Unit {0}
WordIsShort (keyword n) = Unit {0}
WordIsShort (sign n) = Unit {0}

-- the names among the tokens are
abbrev pub AllShort : List (Tok Place) → Type 0
AllShort [] = Unit {0}
AllShort (t ∷ ts) = WordIsShort t.word × AllShort ts

word_short : (bytes : List ℕ) (k : TokenKind) → HasKind bytes k → WordIsShort (word_of k bytes)
word_short bytes kind.Ident h = h.2
word_short bytes (kind.Keyword n) h = tt
word_short bytes (kind.Literal n) h = tt
word_short bytes (kind.Sign n) h = tt

pub tokens_short : (text : List ℕ) (toks : List Token) → All (StandsIn text) toks → AllShort (toks_of text toks)
tokens_short text [] stand = tt
tokens_short text (t ∷ ts) stand =
    (word_short (bytes_of text t) t.kind (All-head (StandsIn text) t ts stand).kind, tokens_short text ts (All-tail (StandsIn text) t ts stand))

behind : (front us : List (Tok Place)) → AllShort (front ++ us) → AllShort us
behind [] us short = short
behind (t ∷ front) us short = behind front us short.1

-- so are those that are left behind a part
pub left : (ts us : List (Tok Place)) → IsEnd ts us → AllShort ts → AllShort us
left ts us end short = behind end.front us (subst AllShort end.is short)

-- and the name that is the first token
pub first : (n : Name) (p : Place) (ts us : List (Tok Place)) → at (named n) p ts us → AllShort ts → IsShort n
first n p ts us took short = (subst AllShort took short).0

-- Where the words of a text lead.
use Rattle.std.specs.Prelude.{◌≡◌, ℕ, ◌⊎◌, List}
use Rattle.syntax.specs.Spellings.{HasKind}
use Rattle.syntax.specs.Tokens.{tokens}
use Rattle.syntax.specs.Words.{word_of}
use Rattle.syntax.specs.declared.token.Token.{Token}
use Rattle.syntax.specs.declared.token.TokenKind.{TokenKind}
use Rattle.message_expected.specs.Automaton.{Reached, kind_of_word, kinds_in, reach, start, stopped}
use Rattle.message_expected.specs.Kinds.{spelling}
use Rattle.message_expected.specs.declared.kinds.Kind.{Kind}
use Rattle.message_expected.specs.declared.kinds.Kind.TheVariants.{End}

-- a text of tokens leads where their kinds do, and one without tokens nowhere
abbrev pub Leads : (text : List ℕ) → Reached → Type 0
Leads text reached =
    ((toks : List Token) × tokens text toks × (reached ≡ reach start (kinds_in text toks))) ⊎ (((toks : List Token) → ¬ tokens text toks) × (reached ≡ stopped))

-- the kind has a word, which is of no other kind
abbrev pub HasWord : Kind → Type 0
HasWord kind = (token : TokenKind) × HasKind (spelling kind) token × (kind_of_word (word_of token (spelling kind)) ≡ kind)

-- the kind is the end, or has a word
abbrev pub IsWord : Kind → Type 0
IsWord kind = (kind ≡ End) ⊎ HasWord kind

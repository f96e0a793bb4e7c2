-- What may stand where a text goes on with no word of the grammar.
use Rattle.std.specs.Prelude.{◌≡◌, ℕ, ◌+◌, ◌-◌, ◌++◌, ◌⊎◌, Bool, not, ◌||◌, ◌==◌, List, [], ◌∷◌, Option, None, Some, codes, length, slice_get, take}
use Rattle.std.specs.List.{prefix_len}
use Rattle.syntax.specs.declared.token.Token.{Token}
use Rattle.syntax.specs.Grammar.{tree}
use Rattle.syntax.specs.Tokens.{tokens}
use Rattle.syntax.specs.Words.{toks_of}
use Rattle.syntax_parser.specs.Faults.{OpensAt}
use Rattle.syntax_reading.specs.Beginning.{BeginsProg}
use Rattle.syntax_tree.specs.Placed.{Prog}
use Rattle.syntax_tree.specs.declared.place.Place.{Place}
use Rattle.message_expected.specs.Kinds.{kinds, spelling}
use Rattle.message_expected.specs.declared.kinds.Kind.{Kind}
use Rattle.message_expected.specs.declared.kinds.Kind.TheVariants.{End, Name, Deadline}

-- the tokens begin a program, or they do up to one that opens a level of nesting beyond the last
unfoldable pub Begin : (text : List ℕ) (toks : List Token) → Type 0
Begin text toks = BeginsProg (toks_of text toks) ⊎ ((p : Place) × OpensAt text toks p)

-- the tokens are a program
unfoldable pub HaveTree : (text : List ℕ) (toks : List Token) → Type 0
HaveTree text toks = (g : Prog Place) × tree text toks g

-- the text is one of tokens that begin a program
unfoldable pub BeginsProgram : (text : List ℕ) → Type 0
BeginsProgram text = (toks : List Token) × tokens text toks × Begin text toks

-- the text is one of tokens that are a program
unfoldable pub IsProgram : (text : List ℕ) → Type 0
IsProgram text = (toks : List Token) × tokens text toks × HaveTree text toks

-- a word may stand behind a text: with it, on a line of its own, the text begins a program
abbrev pub MayFollow : (text word : List ℕ) → Type 0
MayFollow text word = BeginsProgram (text ++ (codes "\n" ++ word))

-- the kind is expected behind a text: the end where it is a program, `deadline` where no other name
-- may stand, and else a kind whose word may follow
unfoldable pub IsExpected : (text : List ℕ) → Kind → Type 0
IsExpected text End = IsProgram text
IsExpected text Deadline = (¬ MayFollow text (spelling Name)) × MayFollow text (spelling Deadline)
IsExpected text kind = MayFollow text (spelling kind)

-- those of some kinds that pass, in their order
unfoldable pub Picks : (Passes : Kind → Type 0) (all found : List Kind) → Type 0
Picks Passes [] found = found ≡ []
Picks Passes (kind ∷ kinds) found =
    (Passes kind × ((rest : List Kind) × (found ≡ kind ∷ rest) × Picks Passes kinds rest)) ⊎ ((¬ Passes kind) × Picks Passes kinds found)

-- exactly the kinds that are expected behind the text, in the order of the kinds
abbrev pub IsExpectedSet : (text : List ℕ) (found : List Kind) → Type 0
IsExpectedSet text found = Picks (IsExpected text) kinds found

-- the last of some tokens
abbrev pub last : List Token → Option Token
last toks = slice_get toks (length toks - 1)

-- the text up to the end of this token
abbrev pub up_to : (text : List ℕ) → Option Token → List ℕ
up_to text None = []
up_to text (Some t) = take (t.start + t.len) text

-- the text up to the end of the last of these tokens
abbrev pub front : (text : List ℕ) (before : List Token) → List ℕ
front text before = up_to text (last before)

-- the token stands at another place
unfoldable pub is_elsewhere : Place → Token → Bool
is_elsewhere place t = not (t.line == place.line) || not (t.col == place.col)

-- the tokens before the first one that stands at the place, all of them where none does
abbrev pub before : (all : List Token) → Place → List Token
before all place = take (prefix_len (is_elsewhere place) all) all

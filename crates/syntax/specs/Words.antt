-- The tokens of a text as words: names with their bytes, literals with their values, keywords and
-- signs.
use Rattle.std.specs.Prelude.{ℕ, List, map, codes}
use Rattle.syntax_tree.specs.Plain.{Name}
use Rattle.syntax_tree.specs.declared.place.Place.{Place}
use Rattle.syntax.specs.declared.token.TokenKind.{TokenKind}
use Rattle.syntax.specs.declared.token.TokenKind.TheVariants as kind
use Rattle.syntax.specs.declared.token.Token.{Token}
use Rattle.syntax.specs.declared.token.keyword.TheConstants as k
use Rattle.syntax.specs.declared.token.sign.TheConstants as s
use Rattle.syntax.specs.Tokens.{bytes_of}

-- a keyword and a sign go by their places in the lists of keywords and signs
pub data Word : Type 0 where
  named : Name → Word
  number : ℕ → Word
  keyword : ℕ → Word
  sign : ℕ → Word

-- a word, at a place of any kind
pub record Tok (P : Type 0) : Type 0 where
  pub word : Word
  pub place : P

-- the word of a token of this kind and these bytes
abbrev pub word_of : TokenKind → List ℕ → Word
word_of kind.Ident bytes = named bytes
word_of (kind.Keyword at) bytes = keyword at
word_of (kind.Literal value) bytes = number value
word_of (kind.Sign at) bytes = sign at

abbrev pub tok : List ℕ → Token → Tok Place
tok text t = record { word = word_of t.kind (bytes_of text t); place = record { line = t.line; col = t.col } }

-- the tokens of a text, as words with places
abbrev pub toks_of : List ℕ → List Token → List (Tok Place)
toks_of text toks = map (tok text) toks

-- the words alone
abbrev pub words_of : {P : Type 0} → List (Tok P) → List Word
words_of ts = map (λ t. t.word) ts

-- a name that begins a deadline where one may stand, and no keyword
abbrev pub DEADLINE : Word
DEADLINE = named (codes "deadline")

-- ---- the keywords and the signs

abbrev pub PROGRAM : Word
PROGRAM = keyword k.PROGRAM

abbrev pub END : Word
END = keyword k.END

abbrev pub CONST : Word
CONST = keyword k.CONST

abbrev pub DEVICE : Word
DEVICE = keyword k.DEVICE

abbrev pub IN : Word
IN = keyword k.IN

abbrev pub OUT : Word
OUT = keyword k.OUT

abbrev pub EVENT : Word
EVENT = keyword k.EVENT

abbrev pub MONITOR : Word
MONITOR = keyword k.MONITOR

abbrev pub CONDITION : Word
CONDITION = keyword k.CONDITION

abbrev pub ENTRY : Word
ENTRY = keyword k.ENTRY

abbrev pub PROCEDURE : Word
PROCEDURE = keyword k.PROCEDURE

abbrev pub FUNCTION : Word
FUNCTION = keyword k.FUNCTION

abbrev pub RETURNS : Word
RETURNS = keyword k.RETURNS

abbrev pub RETURN : Word
RETURN = keyword k.RETURN

abbrev pub PROCESS : Word
PROCESS = keyword k.PROCESS

abbrev pub PERIODIC : Word
PERIODIC = keyword k.PERIODIC

abbrev pub AT_EVENT : Word
AT_EVENT = keyword k.AT_EVENT

abbrev pub FRAME : Word
FRAME = keyword k.FRAME

abbrev pub FIRST : Word
FIRST = keyword k.FIRST

abbrev pub ACTIVATION : Word
ACTIVATION = keyword k.ACTIVATION

abbrev pub AT_TIME : Word
AT_TIME = keyword k.AT_TIME

abbrev pub VAR : Word
VAR = keyword k.VAR

abbrev pub INT : Word
INT = keyword k.INT

abbrev pub BOOLEAN : Word
BOOLEAN = keyword k.BOOLEAN

abbrev pub ARRAY : Word
ARRAY = keyword k.ARRAY

abbrev pub OF : Word
OF = keyword k.OF

abbrev pub BEGIN : Word
BEGIN = keyword k.BEGIN

abbrev pub HANDLER : Word
HANDLER = keyword k.HANDLER

abbrev pub IF : Word
IF = keyword k.IF

abbrev pub THEN : Word
THEN = keyword k.THEN

abbrev pub ELSE : Word
ELSE = keyword k.ELSE

abbrev pub FOR : Word
FOR = keyword k.FOR

abbrev pub DO : Word
DO = keyword k.DO

abbrev pub EXIT : Word
EXIT = keyword k.EXIT

abbrev pub WHEN : Word
WHEN = keyword k.WHEN

abbrev pub PUT : Word
PUT = keyword k.PUT

abbrev pub GET : Word
GET = keyword k.GET

abbrev pub WAIT : Word
WAIT = keyword k.WAIT

abbrev pub NO_LONGER_THAN : Word
NO_LONGER_THAN = keyword k.NO_LONGER_THAN

abbrev pub SIGNAL : Word
SIGNAL = keyword k.SIGNAL

abbrev pub BROADCAST : Word
BROADCAST = keyword k.BROADCAST

abbrev pub EMPTY : Word
EMPTY = keyword k.EMPTY

abbrev pub EXCEPT : Word
EXCEPT = keyword k.EXCEPT

abbrev pub ASSERT : Word
ASSERT = keyword k.ASSERT

abbrev pub AND : Word
AND = keyword k.AND

abbrev pub OR : Word
OR = keyword k.OR

abbrev pub NOT : Word
NOT = keyword k.NOT

abbrev pub DIV : Word
DIV = keyword k.DIV

abbrev pub MOD : Word
MOD = keyword k.MOD

abbrev pub TRUE : Word
TRUE = keyword k.TRUE

abbrev pub FALSE : Word
FALSE = keyword k.FALSE

abbrev pub ASSIGN : Word
ASSIGN = sign s.ASSIGN

abbrev pub RANGE : Word
RANGE = sign s.RANGE

abbrev pub DOT : Word
DOT = sign s.DOT

abbrev pub COLON : Word
COLON = sign s.COLON

abbrev pub COMMA : Word
COMMA = sign s.COMMA

abbrev pub LEFT_PAREN : Word
LEFT_PAREN = sign s.LEFT_PAREN

abbrev pub RIGHT_PAREN : Word
RIGHT_PAREN = sign s.RIGHT_PAREN

abbrev pub LEFT_BRACKET : Word
LEFT_BRACKET = sign s.LEFT_BRACKET

abbrev pub RIGHT_BRACKET : Word
RIGHT_BRACKET = sign s.RIGHT_BRACKET

abbrev pub PLUS : Word
PLUS = sign s.PLUS

abbrev pub MINUS : Word
MINUS = sign s.MINUS

abbrev pub TIMES : Word
TIMES = sign s.TIMES

abbrev pub EQUAL : Word
EQUAL = sign s.EQUAL

abbrev pub UNEQUAL : Word
UNEQUAL = sign s.UNEQUAL

abbrev pub LESS : Word
LESS = sign s.LESS

abbrev pub LESS_EQUAL : Word
LESS_EQUAL = sign s.LESS_EQUAL

abbrev pub GREATER : Word
GREATER = sign s.GREATER

abbrev pub GREATER_EQUAL : Word
GREATER_EQUAL = sign s.GREATER_EQUAL

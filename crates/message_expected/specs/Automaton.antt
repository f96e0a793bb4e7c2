-- A recogniser of programs. On a stack stands what may still come, and each word does a turn of the
-- symbol on top that begins with it; no tree is made.
use Rattle.std.specs.Prelude.{ℕ, zero, suc, Bool, true, false, ◌==◌, ◌||◌, ◌++◌, if◌then◌else◌, List, [], ◌∷◌, Option, None, Some, bytes_eq, codes, is_some, map}
use Rattle.std.specs.List.{list_all}
use Rattle.syntax.specs.declared.token.keyword.TheConstants as k
use Rattle.syntax.specs.declared.token.sign.TheConstants as s
use Rattle.syntax.specs.declared.token.Token.{Token}
use Rattle.syntax.specs.Grammar.{MOST_LEVELS}
use Rattle.syntax.specs.Tokens.{bytes_of}
use Rattle.syntax.specs.Words.{Word, named, number, keyword, sign, word_of}
use Rattle.message_expected.specs.Kinds.{same}
use Rattle.message_expected.specs.declared.kinds.Kind.{Kind}
use Rattle.message_expected.specs.declared.kinds.Kind.TheVariants as of
use Rattle.message_expected.specs.declared.symbols.Symbol.{Symbol}
use Rattle.message_expected.specs.declared.symbols.Symbol.TheVariants.{Name, Keyword, Sign, Declarations, Procedure, Function, Routine, Routines, Entries, Members, Variables, VariableType, Scalar, Constant, Unsigned, FirstParameter, MoreParameters, MoreNumbers, Activation, Deadline, First, Handler, Way, Statements, NamedStatement, Else, Index, Assigned, AssignedName, Expression, Factor, NamedFactor, Arguments, FirstArgument, MoreArguments, Operators, Leave}

-- how a symbol begins with a word: not at all, or it goes on with these, or it opens a level of
-- nesting, with these inside it
pub data Head : Type 0 where
  refused : Head
  along : List Symbol → Head
  inside : List Symbol → Head

-- how it does, and what stands behind that
pub record Turn : Type 0 where
  pub head : Head
  pub behind : List Symbol

-- ---- words

-- the kind of a word
abbrev pub kind_of_word : Word → Kind
kind_of_word (named n) = if bytes_eq n (codes "deadline") then of.Deadline else of.Name
kind_of_word (number n) = of.Number
kind_of_word (keyword at) = of.Keyword at
kind_of_word (sign at) = of.Sign at

abbrev pub kind_in : List ℕ → Token → Kind
kind_in text t = kind_of_word (word_of t.kind (bytes_of text t))

-- the kinds of the tokens of a text
abbrev pub kinds_in : List ℕ → List Token → List Kind
kinds_in text toks = map (kind_in text) toks

abbrev pub is_key : ℕ → Kind → Bool
is_key at kind = same kind (of.Keyword at)

abbrev pub is_sign : ℕ → Kind → Bool
is_sign at kind = same kind (of.Sign at)

-- `deadline` is a name too
abbrev pub is_name : Kind → Bool
is_name kind = same kind of.Name || same kind of.Deadline

abbrev pub is_number : Kind → Bool
is_number kind = same kind of.Number

-- the level of an operator, 0 of what is none
unfoldable pub level_of : Kind → ℕ
level_of kind =
    if is_sign s.TIMES kind || is_key k.DIV kind || is_key k.MOD kind then 1
    else if is_sign s.PLUS kind || is_sign s.MINUS kind then 2
    else if is_sign s.EQUAL kind || is_sign s.UNEQUAL kind || is_sign s.LESS kind || is_sign s.LESS_EQUAL kind || is_sign s.GREATER kind || is_sign s.GREATER_EQUAL kind then 3
    else if is_key k.AND kind then 4
    else if is_key k.OR kind then 5
    else 0

-- ---- expressions

-- what may stand behind a factor of an expression of this level
abbrev pub operators : ℕ → List Symbol
operators zero = []
operators (suc level) = operators level ++ Operators (suc level) ∷ []

-- what may stand behind the factor behind an operator of this level; a comparison has one operator
abbrev pub operators_behind : ℕ → List Symbol
operators_behind level = if level == 3 then operators 2 else operators level

abbrev pub operator : ℕ → Kind → Turn
operator level kind =
    if level_of kind == level then record { head = along (Factor ∷ []); behind = operators_behind level } else record { head = refused; behind = [] }

unfoldable pub named_factor : Kind → Head
named_factor kind =
    if is_sign s.LEFT_BRACKET kind then inside (Expression ∷ Sign s.RIGHT_BRACKET ∷ [])
    else if is_sign s.LEFT_PAREN kind then inside (FirstArgument ∷ [])
    else refused

unfoldable pub factor : Kind → Head
factor kind =
    if is_name kind then along (NamedFactor ∷ [])
    else if is_sign s.LEFT_PAREN kind then inside (Expression ∷ Sign s.RIGHT_PAREN ∷ [])
    else if is_sign s.MINUS kind then inside (Factor ∷ [])
    else if is_key k.NOT kind then inside (Factor ∷ [])
    else if is_number kind || is_key k.TRUE kind || is_key k.FALSE kind then along []
    else refused

abbrev pub index : Kind → Head
index kind = if is_sign s.LEFT_BRACKET kind then inside (Expression ∷ Sign s.RIGHT_BRACKET ∷ []) else refused

abbrev pub arguments : Kind → Head
arguments kind = if is_sign s.LEFT_PAREN kind then inside (FirstArgument ∷ []) else refused

unfoldable pub first_argument : Kind → Turn
first_argument kind =
    if is_sign s.RIGHT_PAREN kind then record { head = along []; behind = [] }
    else record { head = factor kind; behind = operators 5 ++ MoreArguments ∷ Sign s.RIGHT_PAREN ∷ [] }

-- ---- constants and types

unfoldable pub unsigned : Kind → Head
unsigned kind = if is_name kind || is_number kind then along [] else refused

unfoldable pub constant : Kind → Head
constant kind = if is_sign s.MINUS kind then along (Unsigned ∷ []) else unsigned kind

unfoldable pub scalar : Kind → Head
scalar kind =
    if is_key k.INT kind || is_key k.BOOLEAN kind then along []
    else if is_sign s.MINUS kind then along (Unsigned ∷ Sign s.RANGE ∷ Constant ∷ [])
    else if is_name kind || is_number kind then along (Sign s.RANGE ∷ Constant ∷ [])
    else refused

unfoldable pub variable_type : Kind → Head
variable_type kind = if is_key k.ARRAY kind then along (Constant ∷ Sign s.RANGE ∷ Constant ∷ Keyword k.OF ∷ Scalar ∷ []) else scalar kind

unfoldable pub member : Kind → Head
member kind =
    if is_key k.VAR kind then along (Name ∷ Sign s.COLON ∷ VariableType ∷ [])
    else if is_key k.CONDITION kind then along (Name ∷ [])
    else refused

unfoldable pub first_parameter : Kind → Head
first_parameter kind =
    if is_sign s.RIGHT_PAREN kind then along []
    else if is_name kind then along (Sign s.COLON ∷ Scalar ∷ MoreParameters ∷ Sign s.RIGHT_PAREN ∷ [])
    else refused

-- ---- statements

unfoldable pub statement : Kind → Head
statement kind =
    if is_name kind then along (NamedStatement ∷ [])
    else if is_key k.IF kind then inside (Expression ∷ Keyword k.THEN ∷ Statements ∷ Else ∷ [])
    else if is_key k.FOR kind then inside (Name ∷ Sign s.COLON ∷ Constant ∷ Sign s.RANGE ∷ Constant ∷ Keyword k.DO ∷ Statements ∷ Keyword k.END ∷ Keyword k.FOR ∷ [])
    else if is_key k.EXIT kind then along (Keyword k.WHEN ∷ Expression ∷ [])
    else if is_key k.GET kind then along (Name ∷ Name ∷ Index ∷ [])
    else if is_key k.PUT kind then along (Name ∷ Expression ∷ [])
    else if is_key k.ASSERT kind then along (Expression ∷ [])
    else if is_key k.WAIT kind then along (Name ∷ Keyword k.NO_LONGER_THAN ∷ Constant ∷ Sign s.COLON ∷ Constant ∷ [])
    else if is_key k.SIGNAL kind then along (Name ∷ [])
    else if is_key k.BROADCAST kind then along (Name ∷ [])
    else if is_key k.EXCEPT kind then along (Constant ∷ [])
    else refused

unfoldable pub named_statement : Kind → Turn
named_statement kind =
    if is_sign s.LEFT_PAREN kind then record { head = inside (FirstArgument ∷ []); behind = [] }
    else if is_sign s.DOT kind then record { head = along (Name ∷ Arguments ∷ []); behind = [] }
    else if is_sign s.LEFT_BRACKET kind then record { head = inside (Expression ∷ Sign s.RIGHT_BRACKET ∷ []); behind = Sign s.ASSIGN ∷ Assigned ∷ [] }
    else if is_sign s.ASSIGN kind then record { head = along (Assigned ∷ []); behind = [] }
    else record { head = refused; behind = [] }

unfoldable pub else_part : Kind → Head
else_part kind =
    if is_key k.ELSE kind then along (Statements ∷ Keyword k.END ∷ Keyword k.IF ∷ [])
    else if is_key k.END kind then along (Keyword k.IF ∷ [])
    else refused

unfoldable pub assigned : Kind → Turn
assigned kind =
    if is_key k.EMPTY kind then record { head = along (Name ∷ []); behind = [] }
    else if is_name kind then record { head = along (AssignedName ∷ []); behind = [] }
    else record { head = factor kind; behind = operators 5 }

-- behind an operator of this level, which stands behind the first factor of an expression
unfoldable pub behind_operator : ℕ → Turn
behind_operator level =
    if level == 0 then record { head = refused; behind = [] }
    else if level == 3 then record { head = along (Factor ∷ []); behind = operators 2 ++ Operators 4 ∷ Operators 5 ∷ [] }
    else record { head = along (Factor ∷ []); behind = operators 5 }

-- an entry's name, or else what may stand behind a name in an expression
unfoldable pub assigned_name : Kind → Turn
assigned_name kind =
    if is_sign s.DOT kind then record { head = along (Name ∷ Arguments ∷ []); behind = [] }
    else if is_sign s.LEFT_BRACKET kind || is_sign s.LEFT_PAREN kind then record { head = named_factor kind; behind = operators 5 }
    else behind_operator (level_of kind)

-- ---- declarations

unfoldable pub routine : Kind → Head
routine kind =
    if is_key k.PROCEDURE kind then along (Procedure ∷ [])
    else if is_key k.FUNCTION kind then along (Function ∷ [])
    else refused

unfoldable pub procedure : Kind → Head
procedure kind =
    if is_name kind then along (Sign s.LEFT_PAREN ∷ FirstParameter ∷ Variables ∷ Keyword k.BEGIN ∷ Statements ∷ Keyword k.END ∷ Name ∷ [])
    else refused

unfoldable pub function : Kind → Head
function kind =
    if is_name kind then
    along (Sign s.LEFT_PAREN ∷ FirstParameter ∷ Keyword k.RETURNS ∷ Scalar ∷ Variables ∷ Keyword k.BEGIN ∷ Statements ∷ Keyword k.RETURN ∷ Expression ∷ Keyword k.END ∷ Name ∷ [])
    else refused

unfoldable pub activation : Kind → Head
activation kind =
    if is_key k.PERIODIC kind then along (Keyword k.FRAME ∷ Constant ∷ Deadline ∷ First ∷ [])
    else if is_key k.AT_EVENT kind then along (Name ∷ Keyword k.FRAME ∷ Constant ∷ Deadline ∷ [])
    else refused

unfoldable pub declaration : Kind → Head
declaration kind =
    if is_key k.CONST kind then along (Name ∷ Sign s.ASSIGN ∷ Constant ∷ [])
    else if is_key k.DEVICE kind then along (Name ∷ Sign s.COLON ∷ Way ∷ [])
    else if is_key k.EVENT kind then along (Name ∷ [])
    else if is_key k.MONITOR kind then along (Name ∷ Members ∷ Entries ∷ Keyword k.END ∷ Name ∷ [])
    else if is_key k.PROCESS kind then
    along (Name ∷ Sign s.COLON ∷ Activation ∷ Variables ∷ Routines ∷ Keyword k.BEGIN ∷ Statements ∷ Handler ∷ Keyword k.END ∷ Name ∷ [])
    else routine kind

-- what is left of a program behind nothing
abbrev pub program : List Symbol
program = Keyword k.PROGRAM ∷ Name ∷ Declarations ∷ Keyword k.END ∷ Name ∷ []

-- ---- all symbols

-- with nothing behind
abbrev pub alone : Head → Turn
alone head = record { head = head; behind = [] }

-- these where a test holds
abbrev pub where_so : Bool → List Symbol → Head
where_so so symbols = if so then along symbols else refused

unfoldable pub turn : Symbol → Kind → Turn
turn Name kind = alone (where_so (is_name kind) [])
turn (Keyword at) kind = alone (where_so (is_key at kind) [])
turn (Sign at) kind = alone (where_so (is_sign at kind) [])
turn Declarations kind = record { head = declaration kind; behind = Declarations ∷ [] }
turn Procedure kind = alone (procedure kind)
turn Function kind = alone (function kind)
turn Routine kind = alone (routine kind)
turn Routines kind = record { head = routine kind; behind = Routines ∷ [] }
turn Entries kind = alone (where_so (is_key k.ENTRY kind) (Routine ∷ Entries ∷ []))
turn Members kind = record { head = member kind; behind = Members ∷ [] }
turn Variables kind = alone (where_so (is_key k.VAR kind) (Name ∷ Sign s.COLON ∷ VariableType ∷ Variables ∷ []))
turn VariableType kind = alone (variable_type kind)
turn Scalar kind = alone (scalar kind)
turn Constant kind = alone (constant kind)
turn Unsigned kind = alone (unsigned kind)
turn FirstParameter kind = alone (first_parameter kind)
turn MoreParameters kind = alone (where_so (is_sign s.COMMA kind) (Name ∷ Sign s.COLON ∷ Scalar ∷ MoreParameters ∷ []))
turn MoreNumbers kind = alone (where_so (is_sign s.COMMA kind) (Constant ∷ MoreNumbers ∷ []))
turn Activation kind = alone (activation kind)
turn Deadline kind = alone (where_so (same kind of.Deadline) (Constant ∷ []))
turn First kind = alone (where_so (is_key k.FIRST kind) (Keyword k.ACTIVATION ∷ Keyword k.AT_TIME ∷ Constant ∷ []))
turn Handler kind = alone (where_so (is_key k.HANDLER kind) (Sign s.LEFT_PAREN ∷ Constant ∷ MoreNumbers ∷ Sign s.RIGHT_PAREN ∷ Statements ∷ []))
turn Way kind = alone (where_so (is_key k.OUT kind || is_key k.IN kind) [])
turn Statements kind = record { head = statement kind; behind = Statements ∷ [] }
turn NamedStatement kind = named_statement kind
turn Else kind = alone (else_part kind)
turn Index kind = alone (index kind)
turn Assigned kind = assigned kind
turn AssignedName kind = assigned_name kind
turn Expression kind = record { head = factor kind; behind = operators 5 }
turn Factor kind = alone (factor kind)
turn NamedFactor kind = alone (named_factor kind)
turn Arguments kind = alone (arguments kind)
turn FirstArgument kind = first_argument kind
turn MoreArguments kind = alone (where_so (is_sign s.COMMA kind) (Expression ∷ MoreArguments ∷ []))
turn (Operators level) kind = operator level kind
turn (Leave levels) kind = alone refused

-- whether nothing at all may stand for the symbol
abbrev pub is_optional : Symbol → Bool
is_optional Declarations = true
is_optional Routines = true
is_optional Entries = true
is_optional Members = true
is_optional Variables = true
is_optional MoreParameters = true
is_optional MoreNumbers = true
is_optional Deadline = true
is_optional First = true
is_optional Handler = true
is_optional Statements = true
is_optional Index = true
is_optional AssignedName = true
is_optional NamedFactor = true
is_optional MoreArguments = true
is_optional (Operators level) = true
is_optional (Leave levels) = true
is_optional symbol = false

-- ---- the stack, its top first, and the levels of nesting that are left

-- the first symbol that begins with a word, past those that nothing may stand for: its turn, the
-- levels that are left there, and what is below it
pub record Found : Type 0 where
  pub levels : ℕ
  pub turn : Turn
  pub below : List Symbol

-- the levels that are left behind the symbol
abbrev pub levels_behind : Symbol → ℕ → ℕ
levels_behind (Leave levels) now = levels
levels_behind symbol now = now

abbrev pub is_refused : Head → Bool
is_refused refused = true
is_refused _ = false

unfoldable pub find : (levels : ℕ) (stack : List Symbol) (kind : Kind) → Option Found
find levels [] kind = None
find levels (symbol ∷ stack) kind =
    if is_refused (turn symbol kind).head then (if is_optional symbol then find (levels_behind symbol levels) stack kind else None)
    else Some (record { levels = levels; turn = turn symbol kind; below = stack })

-- where words have led: to one with which they begin no program, to one that opens a level beyond
-- the last, or to these levels and this stack
pub data Reached : Type 0 where
  stopped : Reached
  too_deep : Reached
  on : ℕ → List Symbol → Reached

abbrev pub taken : (levels : ℕ) (head : Head) (behind : List Symbol) → Reached
taken levels refused behind = stopped
taken levels (along symbols) behind = on levels (symbols ++ behind)
taken zero (inside symbols) behind = too_deep
taken (suc levels) (inside symbols) behind = on levels (symbols ++ Leave (suc levels) ∷ behind)

abbrev pub found_then : Option Found → Reached
found_then None = stopped
found_then (Some found) = taken found.levels found.turn.head (found.turn.behind ++ found.below)

-- with one word
abbrev pub feed : (levels : ℕ) (stack : List Symbol) (kind : Kind) → Reached
feed levels stack kind = found_then (find levels stack kind)

-- where no word has been read
abbrev pub start : Reached
start = on MOST_LEVELS program

-- with one word after another
unfoldable pub reach : Reached → List Kind → Reached
reach (on levels stack) (kind ∷ kinds) = reach (feed levels stack kind) kinds
reach reached kinds = reached

-- a word of this kind may stand there, the limit on nesting left aside
abbrev pub goes_on : Reached → Kind → Bool
goes_on stopped kind = false
goes_on too_deep kind = true
goes_on (on levels stack) kind = is_some (find levels stack kind)

-- nothing may stand for all that is left
abbrev pub is_whole : Reached → Bool
is_whole (on levels stack) = list_all is_optional stack
is_whole _ = false

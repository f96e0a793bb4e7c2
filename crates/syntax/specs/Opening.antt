-- Where a token opens a level of nesting and none is left: the tokens before it are the beginning
-- of a program, and all levels are open there. A level is opened by `if` and `for`, by `-` and
-- `not` before a factor, by parentheses, by index brackets and by argument lists. The parts that
-- are whole before it keep within the levels, so it is the first such token.
use Rattle.std.specs.Prelude.{◌≡◌, ℕ, zero, suc, ◌≤◌, ◌⊎◌, List, length}
use Rattle.syntax_tree.specs.Plain.{Op}
use Rattle.syntax_tree.specs.Placed.{Expr, RoutineKind, function}
use Rattle.syntax.specs.Words as w
use Rattle.syntax.specs.Words.{Word, named, Tok}
use Rattle.syntax.specs.ExprGrammar.{a, ◌▷◌, nothing, Each, Listed, SomeListed, IsConstant, OfLevel, IsExpr}
use Rattle.syntax.specs.StmtGrammar.{IsRef, AreStmts}
use Rattle.syntax.specs.Grammar.{MOST_LEVELS, kind_word, IsVar, IsParam, IsResult, IsRoutine, IsMember, IsEntry, IsActivation, IsDecl}

-- ---- parts

-- what stands between some tokens and those that are left
abbrev pub Part : Type 0 → Type 1
Part P = List (Tok P) → List (Tok P) → Type 0

-- a whole one of these
abbrev pub Whole : {P A : Type 0} → (A → Part P) → Part P
Whole {P} {A} R ts us = (x : A) × R x ts us

-- the one part or the other
infixr 4 ◌∪◌
abbrev pub ◌∪◌ : {P : Type 0} → (R S : Part P) → Part P
◌∪◌ R S ts us = R ts us ⊎ S ts us

-- nothing, and the first token that is left is this word
abbrev pub here : {P : Type 0} → Word → Part P
here {P} word ts us = nothing ts us × ((vs : List (Tok P)) × a word ts vs)

-- some name
abbrev pub a_name : {P : Type 0} → Part P
a_name = Whole (λ n. a (named n))

-- ---- expressions, with this many levels left

-- operands of this level, each with an operator of one level up behind it; a comparison has one
-- operator
abbrev pub HaveOperators : {P : Type 0} → (level depth : ℕ) → List (Expr P × Op) → Part P
HaveOperators level depth rs ts us = (suc level ≡ 3 → length rs ≤ 1) × Each (λ r. IsExpr level depth r.0 ▷ OfLevel (suc level) r.1) rs ts us

-- from an expression of at most this level to one of its factors: past operands of each level, from
-- the top down
unfoldable pub UpToFactor : {P : Type 0} → (level depth : ℕ) → Part P
UpToFactor zero depth = nothing
UpToFactor (suc level) depth = Whole (HaveOperators level depth) ▷ UpToFactor level depth

-- from arguments to one of them: past others, each with a comma behind it
abbrev pub UpToArg : {P : Type 0} → (depth : ℕ) → Part P
UpToArg depth = Whole (Each (λ e. IsExpr 5 depth e ▷ a w.COMMA))

-- from a factor to a factor inside it, one level deeper
abbrev pub IntoFactor : {P : Type 0} → (depth : ℕ) → Part P
IntoFactor depth =
    a w.MINUS
    ∪ a w.NOT
    ∪ a w.LEFT_PAREN ▷ UpToFactor 5 depth
    ∪ a_name ▷ a w.LEFT_BRACKET ▷ UpToFactor 5 depth
    ∪ a_name ▷ a w.LEFT_PAREN ▷ UpToArg depth ▷ UpToFactor 5 depth

-- in a factor a token opens a level where none is left: by its own first opening, or in a factor
-- inside it
unfoldable pub OpensFactor : {P : Type 0} → (depth : ℕ) → Part P
OpensFactor zero = here w.MINUS ∪ here w.NOT ∪ here w.LEFT_PAREN ∪ a_name ▷ here w.LEFT_BRACKET ∪ a_name ▷ here w.LEFT_PAREN
OpensFactor (suc depth) = IntoFactor depth ▷ OpensFactor depth

-- in one of an expression's factors a token does
abbrev pub OpensExpr : {P : Type 0} → (depth : ℕ) → Part P
OpensExpr depth = UpToFactor 5 depth ▷ OpensFactor depth

-- an index does, by its bracket or inside it
abbrev pub OpensIndex : {P : Type 0} → (depth : ℕ) → Part P
OpensIndex zero = here w.LEFT_BRACKET
OpensIndex (suc depth) = a w.LEFT_BRACKET ▷ OpensExpr depth

-- arguments do, by their parenthesis or inside it
abbrev pub OpensArgs : {P : Type 0} → (depth : ℕ) → Part P
OpensArgs zero = here w.LEFT_PAREN
OpensArgs (suc depth) = a w.LEFT_PAREN ▷ UpToArg depth ▷ OpensExpr depth

-- ---- statements, with this many levels left

-- the index of a reference does
abbrev pub OpensRef : {P : Type 0} → (depth : ℕ) → Part P
OpensRef depth = a_name ▷ OpensIndex depth

-- in the expressions of a statement other than `if` and `for` a token does
abbrev pub OpensSimple : {P : Type 0} → (depth : ℕ) → Part P
OpensSimple depth =
    OpensRef depth
    ∪ Whole (IsRef depth) ▷ a w.ASSIGN ▷ OpensExpr depth
    ∪ Whole (IsRef depth) ▷ a w.ASSIGN ▷ a_name ▷ a w.DOT ▷ a_name ▷ OpensArgs depth
    ∪ a_name ▷ OpensArgs depth
    ∪ a_name ▷ a w.DOT ▷ a_name ▷ OpensArgs depth
    ∪ a w.EXIT ▷ a w.WHEN ▷ OpensExpr depth
    ∪ a w.GET ▷ a_name ▷ OpensRef depth
    ∪ a w.PUT ▷ a_name ▷ OpensExpr depth
    ∪ a w.ASSERT ▷ OpensExpr depth

-- from an `if` or a `for` to a statement inside it, one level deeper
abbrev pub IntoStmt : {P : Type 0} → (depth : ℕ) → Part P
IntoStmt depth =
    a w.IF ▷ Whole (IsExpr 5 depth) ▷ a w.THEN ▷ Whole (AreStmts depth)
    ∪ a w.IF ▷ Whole (IsExpr 5 depth) ▷ a w.THEN ▷ Whole (AreStmts depth) ▷ a w.ELSE ▷ Whole (AreStmts depth)
    ∪ a w.FOR ▷ a_name ▷ a w.COLON ▷ Whole IsConstant ▷ a w.RANGE ▷ Whole IsConstant ▷ a w.DO ▷ Whole (AreStmts depth)

-- a statement does, by its `if` or `for`, in its test, in a statement inside it, or in its
-- expressions
unfoldable pub OpensStmt : {P : Type 0} → (depth : ℕ) → Part P
OpensStmt zero = here w.IF ∪ here w.FOR ∪ OpensSimple zero
OpensStmt (suc depth) = a w.IF ▷ OpensExpr depth ∪ IntoStmt depth ▷ OpensStmt depth ∪ OpensSimple (suc depth)

-- one of the statements does, behind whole ones
abbrev pub OpensStmts : {P : Type 0} → (depth : ℕ) → Part P
OpensStmts depth = Whole (AreStmts depth) ▷ OpensStmt depth

-- ---- declarations

-- a routine of this kind up to its `begin`
abbrev pub RoutineFront : {P : Type 0} → RoutineKind → Part P
RoutineFront kind =
    a (kind_word kind) ▷ a_name ▷ a w.LEFT_PAREN ▷ Whole (SomeListed IsParam) ▷ a w.RIGHT_PAREN ▷ Whole (IsResult kind) ▷ Whole (Each IsVar) ▷ a w.BEGIN

-- a routine does, in its statements or in the expression of its result
abbrev pub OpensRoutine : {P : Type 0} → Part P
OpensRoutine =
    Whole RoutineFront ▷ OpensStmts MOST_LEVELS
    ∪ RoutineFront function ▷ Whole (AreStmts MOST_LEVELS) ▷ a w.RETURN ▷ OpensExpr MOST_LEVELS

-- one of a monitor's entries does, behind whole ones
abbrev pub OpensMonitor : {P : Type 0} → Part P
OpensMonitor = a w.MONITOR ▷ a_name ▷ Whole (Each IsMember) ▷ Whole (Each IsEntry) ▷ a w.ENTRY ▷ OpensRoutine

-- a process up to its own routines, and some of those
abbrev pub ProcessFront : {P : Type 0} → Part P
ProcessFront = a w.PROCESS ▷ a_name ▷ a w.COLON ▷ Whole IsActivation ▷ Whole (Each IsVar) ▷ Whole (Each IsRoutine)

-- a process does, in a routine, in its statements or in its handler's
abbrev pub OpensProcess : {P : Type 0} → Part P
OpensProcess =
    ProcessFront ▷ OpensRoutine
    ∪ ProcessFront ▷ a w.BEGIN ▷ OpensStmts MOST_LEVELS
    ∪ ProcessFront ▷ a w.BEGIN ▷ Whole (AreStmts MOST_LEVELS) ▷ a w.HANDLER ▷ a w.LEFT_PAREN ▷ Whole (Listed IsConstant) ▷ a w.RIGHT_PAREN
    ▷ OpensStmts MOST_LEVELS

-- a declaration does
abbrev pub OpensDecl : {P : Type 0} → Part P
OpensDecl = OpensRoutine ∪ OpensMonitor ∪ OpensProcess

-- from the first list the tokens up to the second begin a program, and the first token of the
-- second opens a level beyond the last
abbrev pub OpensProg : {P : Type 0} → Part P
OpensProg = a w.PROGRAM ▷ a_name ▷ Whole (Each IsDecl) ▷ OpensDecl

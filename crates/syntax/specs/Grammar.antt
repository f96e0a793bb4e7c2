-- The grammar of declarations and programs.
use Rattle.std.specs.Prelude.{ℕ, Bool, true, false, List, [], Option, Some, None}
use Rattle.syntax_tree.specs.declared.place.Place.{Place}
use Rattle.syntax.specs.declared.token.Token.{Token}
use Rattle.syntax_tree.specs.Placed.{Constant, Scalar, int, boolean, subrange, Kind, scalar, array, Var, Param, Expr, RoutineKind, procedure, function, Routine, Member, variable_member, condition_member, Monitor, Activation, periodic, at_event, Handler, Process, Decl, constant, device, event, routine, monitor, process, Prog}
use Rattle.syntax.specs.Words as w
use Rattle.syntax.specs.Words.{Word, named, Tok, toks_of}
use Rattle.syntax.specs.ExprGrammar.{at, a, ◌▷◌, nothing, never, Each, Listed, SomeListed, IsConstant, IsExpr}
use Rattle.syntax.specs.StmtGrammar.{AreStmts}

-- the most levels of nesting
abbrev pub MOST_LEVELS : ℕ
MOST_LEVELS = 64

abbrev pub IsScalar : {P : Type 0} → Scalar P → List (Tok P) → List (Tok P) → Type 0
IsScalar int = a w.INT
IsScalar boolean = a w.BOOLEAN
IsScalar (subrange low high) = IsConstant low ▷ a w.RANGE ▷ IsConstant high

abbrev pub IsKind : {P : Type 0} → Kind P → List (Tok P) → List (Tok P) → Type 0
IsKind (scalar s) = IsScalar s
IsKind (array low high s) = a w.ARRAY ▷ IsConstant low ▷ a w.RANGE ▷ IsConstant high ▷ a w.OF ▷ IsScalar s

abbrev pub IsVar : {P : Type 0} → Var P → List (Tok P) → List (Tok P) → Type 0
IsVar v = a w.VAR ▷ at (named v.name) v.place ▷ a w.COLON ▷ IsKind v.kind

abbrev pub IsParam : {P : Type 0} → Param P → List (Tok P) → List (Tok P) → Type 0
IsParam v = at (named v.name) v.place ▷ a w.COLON ▷ IsScalar v.kind

abbrev pub kind_word : RoutineKind → Word
kind_word procedure = w.PROCEDURE
kind_word function = w.FUNCTION

-- a function has a type of its result, a procedure none
abbrev pub IsResult : {P : Type 0} → RoutineKind → Option (Scalar P) → List (Tok P) → List (Tok P) → Type 0
IsResult procedure None = nothing
IsResult procedure (Some s) = never
IsResult function None = never
IsResult function (Some s) = a w.RETURNS ▷ IsScalar s

-- a function has an expression of its result, a procedure none; with this many levels of nesting,
-- here and below
abbrev pub IsValueWithin : {P : Type 0} → (depth : ℕ) → RoutineKind → Option (Expr P) → List (Tok P) → List (Tok P) → Type 0
IsValueWithin depth procedure None = nothing
IsValueWithin depth procedure (Some e) = never
IsValueWithin depth function None = never
IsValueWithin depth function (Some e) = a w.RETURN ▷ IsExpr 5 depth e

abbrev pub IsRoutineWithin : {P : Type 0} → (depth : ℕ) → Routine P → List (Tok P) → List (Tok P) → Type 0
IsRoutineWithin depth r =
    a (kind_word r.kind) ▷ at (named r.name) r.place ▷ a w.LEFT_PAREN ▷ SomeListed IsParam r.params ▷ a w.RIGHT_PAREN ▷ IsResult r.kind r.result
    ▷ Each IsVar r.vars ▷ a w.BEGIN ▷ AreStmts depth r.body ▷ IsValueWithin depth r.kind r.value ▷ a w.END ▷ at (named r.close) r.close_place

abbrev pub IsMember : {P : Type 0} → Member P → List (Tok P) → List (Tok P) → Type 0
IsMember (variable_member v) = IsVar v
IsMember (condition_member n p) = a w.CONDITION ▷ at (named n) p

abbrev pub IsEntryWithin : {P : Type 0} → (depth : ℕ) → Routine P → List (Tok P) → List (Tok P) → Type 0
IsEntryWithin depth r = a w.ENTRY ▷ IsRoutineWithin depth r

abbrev pub IsMonitorWithin : {P : Type 0} → (depth : ℕ) → Monitor P → List (Tok P) → List (Tok P) → Type 0
IsMonitorWithin depth m =
    a w.MONITOR ▷ at (named m.name) m.place ▷ Each IsMember m.members ▷ Each (IsEntryWithin depth) m.entries ▷ a w.END ▷ at (named m.close) m.close_place

-- the deadline of a process, where it is said
abbrev pub IsDeadline : {P : Type 0} → Option (Constant P) → List (Tok P) → List (Tok P) → Type 0
IsDeadline None = nothing
IsDeadline (Some c) = a w.DEADLINE ▷ IsConstant c

-- the first activation of a process, where it is said
abbrev pub IsFirst : {P : Type 0} → Option (Constant P) → List (Tok P) → List (Tok P) → Type 0
IsFirst None = nothing
IsFirst (Some c) = a w.FIRST ▷ a w.ACTIVATION ▷ a w.AT_TIME ▷ IsConstant c

abbrev pub IsActivation : {P : Type 0} → Activation P → List (Tok P) → List (Tok P) → Type 0
IsActivation (periodic frame deadline first) = a w.PERIODIC ▷ a w.FRAME ▷ IsConstant frame ▷ IsDeadline deadline ▷ IsFirst first
IsActivation (at_event e p frame deadline) = a w.AT_EVENT ▷ at (named e) p ▷ a w.FRAME ▷ IsConstant frame ▷ IsDeadline deadline

abbrev pub IsHandlerWithin : {P : Type 0} → (depth : ℕ) → Option (Handler P) → List (Tok P) → List (Tok P) → Type 0
IsHandlerWithin depth None = nothing
IsHandlerWithin depth (Some h) = a w.HANDLER ▷ a w.LEFT_PAREN ▷ Listed IsConstant h.numbers ▷ a w.RIGHT_PAREN ▷ AreStmts depth h.body

abbrev pub IsProcessWithin : {P : Type 0} → (depth : ℕ) → Process P → List (Tok P) → List (Tok P) → Type 0
IsProcessWithin depth p =
    a w.PROCESS ▷ at (named p.name) p.place ▷ a w.COLON ▷ IsActivation p.activation ▷ Each IsVar p.vars ▷ Each (IsRoutineWithin depth) p.routines ▷ a w.BEGIN
    ▷ AreStmts depth p.body ▷ IsHandlerWithin depth p.handler ▷ a w.END ▷ at (named p.close) p.close_place

abbrev pub way_word : Bool → Word
way_word true = w.OUT
way_word false = w.IN

abbrev pub IsDeclWithin : {P : Type 0} → (depth : ℕ) → Decl P → List (Tok P) → List (Tok P) → Type 0
IsDeclWithin depth (constant n p c) = a w.CONST ▷ at (named n) p ▷ a w.ASSIGN ▷ IsConstant c
IsDeclWithin depth (device n p is_out) = a w.DEVICE ▷ at (named n) p ▷ a w.COLON ▷ a (way_word is_out)
IsDeclWithin depth (event n p) = a w.EVENT ▷ at (named n) p
IsDeclWithin depth (routine r) = IsRoutineWithin depth r
IsDeclWithin depth (monitor m) = IsMonitorWithin depth m
IsDeclWithin depth (process p) = IsProcessWithin depth p

abbrev pub IsProgWithin : {P : Type 0} → (depth : ℕ) → Prog P → List (Tok P) → List (Tok P) → Type 0
IsProgWithin depth g = a w.PROGRAM ▷ at (named g.name) g.place ▷ Each (IsDeclWithin depth) g.decls ▷ a w.END ▷ at (named g.close) g.close_place

-- ---- with the most levels of nesting

abbrev pub IsValue : {P : Type 0} → RoutineKind → Option (Expr P) → List (Tok P) → List (Tok P) → Type 0
IsValue = IsValueWithin MOST_LEVELS

abbrev pub IsRoutine : {P : Type 0} → Routine P → List (Tok P) → List (Tok P) → Type 0
IsRoutine = IsRoutineWithin MOST_LEVELS

abbrev pub IsEntry : {P : Type 0} → Routine P → List (Tok P) → List (Tok P) → Type 0
IsEntry = IsEntryWithin MOST_LEVELS

abbrev pub IsMonitor : {P : Type 0} → Monitor P → List (Tok P) → List (Tok P) → Type 0
IsMonitor = IsMonitorWithin MOST_LEVELS

abbrev pub IsHandler : {P : Type 0} → Option (Handler P) → List (Tok P) → List (Tok P) → Type 0
IsHandler = IsHandlerWithin MOST_LEVELS

abbrev pub IsProcess : {P : Type 0} → Process P → List (Tok P) → List (Tok P) → Type 0
IsProcess = IsProcessWithin MOST_LEVELS

abbrev pub IsDecl : {P : Type 0} → Decl P → List (Tok P) → List (Tok P) → Type 0
IsDecl = IsDeclWithin MOST_LEVELS

abbrev pub IsProg : {P : Type 0} → Prog P → List (Tok P) → List (Tok P) → Type 0
IsProg = IsProgWithin MOST_LEVELS

-- the tokens of the text, all of them, are those of the program
abbrev pub tree : List ℕ → List Token → Prog Place → Type 0
tree text toks g = IsProg g (toks_of text toks) []

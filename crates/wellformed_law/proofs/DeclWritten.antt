-- Where the literals among the tokens are words, those of declarations are, and functions alone have a result type and a result.
use Rattle.std.proofs.Common.{List, [], Option, Some, None}
use Rattle.syntax_tree.specs.Placed.{Constant, Scalar, int, boolean, subrange, Kind, scalar, array, Var, Param, Expr, RoutineKind, procedure, function, Routine, Member, variable_member, condition_member, Monitor, Activation, periodic, at_event, Handler, Process, Decl, constant, device, event, routine, monitor, process, Prog}
use Rattle.syntax_tree.specs.declared.place.Place.{Place}
use Rattle.syntax.specs.Words as w
use Rattle.syntax.specs.Words.{Word, named, Tok}
use Rattle.syntax.specs.ExprGrammar.{IsConstant}
use Rattle.syntax.specs.Grammar.{MOST_LEVELS, IsScalar, IsKind, IsVar, IsParam, kind_word, IsResult, IsValue, IsRoutine, IsMember, IsEntry, IsMonitor, IsDeadline, IsFirst, IsActivation, IsHandler, IsProcess, way_word, IsDecl, IsProg}
use Rattle.static_semantics.specs.Written.{ConstantWritten, ScalarWritten, KindWritten, VarWritten, ParamWritten, ExprWritten, ResultWritten, RoutineWritten, MemberWritten, MonitorWritten, OptionalWritten, ActivationWritten, HandlerWritten, ProcessWritten, DeclWritten, IsWritten}
use Rattle.wellformed_law.proofs.Given.{AllFit, Gives, ◌▸◌, ◌▹◌, ◌◃◌, turn, three, none, any_at, any, each, listed, some_listed}
use Rattle.wellformed_law.proofs.ExprWritten.{constant-written, expr-written, stmts-written}

scalar-written : (s : Scalar Place) → Gives (IsScalar s) (ScalarWritten s)
scalar-written int = any w.INT
scalar-written boolean = any w.BOOLEAN
scalar-written (subrange low high) = constant-written low ▸ any w.RANGE ▹ constant-written high

kind-written : (k : Kind Place) → Gives (IsKind k) (KindWritten k)
kind-written (scalar s) = scalar-written s
kind-written (array low high s) = three (any w.ARRAY ▹ constant-written low ▸ any w.RANGE ▹ constant-written high ▸ any w.OF ▹ scalar-written s)

var-written : (v : Var Place) → Gives (IsVar v) (VarWritten v)
var-written v = any w.VAR ▹ any_at (named v.name) v.place ▹ any w.COLON ▹ kind-written v.kind

param-written : (v : Param Place) → Gives (IsParam v) (ParamWritten v)
param-written v = any_at (named v.name) v.place ▹ any w.COLON ▹ scalar-written v.kind

-- ---- routines

-- the result type of a function, and none of a procedure
abbrev TypeWritten : RoutineKind → Option (Scalar Place) → Type 0
TypeWritten procedure None = Unit {0}
TypeWritten procedure (Some s) = ⊥
TypeWritten function None = ⊥
TypeWritten function (Some s) = ScalarWritten s

-- the result of a function, and none of a procedure
abbrev ValueWritten : RoutineKind → Option (Expr Place) → Type 0
ValueWritten procedure None = Unit {0}
ValueWritten procedure (Some e) = ⊥
ValueWritten function None = ⊥
ValueWritten function (Some e) = ExprWritten e

type-written : (k : RoutineKind) (s : Option (Scalar Place)) → Gives (IsResult k s) (TypeWritten k s)
type-written procedure None = none
type-written procedure (Some s) = record { from = λ ts us t fit. absurd t }
type-written function None = record { from = λ ts us t fit. absurd t }
type-written function (Some s) = any w.RETURNS ▹ scalar-written s

value-written : (k : RoutineKind) (e : Option (Expr Place)) → Gives (IsValue k e) (ValueWritten k e)
value-written procedure None = none
value-written procedure (Some e) = record { from = λ ts us t fit. absurd t }
value-written function None = record { from = λ ts us t fit. absurd t }
value-written function (Some e) = any w.RETURN ▹ expr-written 5 MOST_LEVELS e

result-written : (k : RoutineKind) (s : Option (Scalar Place)) (e : Option (Expr Place)) → TypeWritten k s → ValueWritten k e → ResultWritten k s e
result-written procedure None None x y = tt
result-written procedure None (Some e) x y = absurd y
result-written procedure (Some s) e x y = absurd x
result-written function None e x y = absurd x
result-written function (Some s) None x y = absurd y
result-written function (Some s) (Some e) x y = (x, y)

routine-written : (r : Routine Place) → Gives (IsRoutine r) (RoutineWritten r)
routine-written r = turn
    (any (kind_word r.kind) ▹ any_at (named r.name) r.place ▹ any w.LEFT_PAREN ▹ some_listed IsParam ParamWritten param-written r.params ▸ any w.RIGHT_PAREN ▹ type-written r.kind r.result
    ▸ each IsVar VarWritten var-written r.vars ▸ any w.BEGIN ▹ stmts-written MOST_LEVELS r.body ▸ value-written r.kind r.value ◃ any w.END ▹ any_at (named r.close) r.close_place)
    (λ x. record { params = x.0; vars = x.1.1.0; body = x.1.1.1.0; result = result-written r.kind r.result r.value x.1.0 x.1.1.1.1 })

entry-written : (r : Routine Place) → Gives (IsEntry r) (RoutineWritten r)
entry-written r = any w.ENTRY ▹ routine-written r

-- ---- monitors and processes

member-written : (m : Member Place) → Gives (IsMember m) (MemberWritten m)
member-written (variable_member v) = var-written v
member-written (condition_member n p) = any w.CONDITION ▹ any_at (named n) p

monitor-written : (m : Monitor Place) → Gives (IsMonitor m) (MonitorWritten m)
monitor-written m = turn
    (any w.MONITOR ▹ any_at (named m.name) m.place ▹ each IsMember MemberWritten member-written m.members ▸ each IsEntry RoutineWritten entry-written m.entries ◃ any w.END
    ▹ any_at (named m.close) m.close_place)
    (λ x. record { members = x.0; entries = x.1 })

deadline-written : (c : Option (Constant Place)) → Gives (IsDeadline c) (OptionalWritten c)
deadline-written None = none
deadline-written (Some c) = any w.DEADLINE ▹ constant-written c

first-written : (c : Option (Constant Place)) → Gives (IsFirst c) (OptionalWritten c)
first-written None = none
first-written (Some c) = any w.FIRST ▹ any w.ACTIVATION ▹ any w.AT_TIME ▹ constant-written c

activation-written : (x : Activation Place) → Gives (IsActivation x) (ActivationWritten x)
activation-written (periodic frame deadline start) = three (any w.PERIODIC ▹ any w.FRAME ▹ constant-written frame ▸ deadline-written deadline ▸ first-written start)
activation-written (at_event e p frame deadline) = any w.AT_EVENT ▹ any_at (named e) p ▹ any w.FRAME ▹ constant-written frame ▸ deadline-written deadline

handler-written : (h : Option (Handler Place)) → Gives (IsHandler h) (HandlerWritten h)
handler-written None = none
handler-written (Some h) = any w.HANDLER ▹ any w.LEFT_PAREN ▹ listed IsConstant ConstantWritten constant-written h.numbers ▸ any w.RIGHT_PAREN ▹ stmts-written MOST_LEVELS h.body

process-written : (p : Process Place) → Gives (IsProcess p) (ProcessWritten p)
process-written p = turn
    (any w.PROCESS ▹ any_at (named p.name) p.place ▹ any w.COLON ▹ activation-written p.activation ▸ each IsVar VarWritten var-written p.vars ▸ each IsRoutine RoutineWritten routine-written p.routines
    ▸ any w.BEGIN ▹ stmts-written MOST_LEVELS p.body ▸ handler-written p.handler ◃ any w.END ▹ any_at (named p.close) p.close_place)
    (λ x. record { activation = x.0; vars = x.1.0; routines = x.1.1.0; body = x.1.1.1.0; handler = x.1.1.1.1 })

-- ---- programs

decl-written : (d : Decl Place) → Gives (IsDecl d) (DeclWritten d)
decl-written (constant n p c) = any w.CONST ▹ any_at (named n) p ▹ any w.ASSIGN ▹ constant-written c
decl-written (device n p is_out) = any w.DEVICE ▹ any_at (named n) p ▹ any w.COLON ▹ any (way_word is_out)
decl-written (event n p) = any w.EVENT ▹ any_at (named n) p
decl-written (routine r) = routine-written r
decl-written (monitor m) = monitor-written m
decl-written (process p) = process-written p

program-written : (g : Prog Place) → Gives (IsProg g) (IsWritten g)
program-written g = any w.PROGRAM ▹ any_at (named g.name) g.place ▹ each IsDecl DeclWritten decl-written g.decls ◃ any w.END ▹ any_at (named g.close) g.close_place

pub is-written : (g : Prog Place) (ts : List (Tok Place)) → IsProg g ts [] → AllFit ts → IsWritten g
is-written g ts took fit = ((program-written g).from ts [] took fit).0

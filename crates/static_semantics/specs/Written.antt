-- What holds of every tree that is read: literals are words, and functions alone have a result type
-- and a result.
use Rattle.std.specs.Prelude.{ℕ, ◌≤◌, Option, Some, None, All}
use Rattle.syntax_tree.specs.Placed.{Constant, literal_constant, named_constant, Scalar, int, boolean, subrange, Kind, scalar, array, Var, Param, Expr, literal, truth, variable, element, call, minus, negation, paren, row, Exprs, no_exprs, exprs, Operands, no_operands, operand, Ref, whole, part, Stmt, assign, assign_entry, assign_empty, perform, perform_entry, when, when_else, loop, exit_when, get, put, wait, signal, broadcast, except, assert, Stmts, no_stmts, stmts, RoutineKind, procedure, function, Routine, Member, variable_member, condition_member, Monitor, Activation, periodic, at_event, Handler, Process, Decl, constant, device, event, routine, monitor, process, Prog}
use Rattle.syntax_tree.specs.declared.place.Place.{Place}

-- the greatest word
abbrev pub greatest : ℕ
greatest = 2147483647

abbrev pub ConstantWritten : Constant Place → Type 0
ConstantWritten (literal_constant p is_minus n q) = n ≤ greatest
ConstantWritten (named_constant p is_minus name q) = Unit {0}

abbrev pub ScalarWritten : Scalar Place → Type 0
ScalarWritten int = Unit {0}
ScalarWritten boolean = Unit {0}
ScalarWritten (subrange low high) = ConstantWritten low × ConstantWritten high

abbrev pub KindWritten : Kind Place → Type 0
KindWritten (scalar s) = ScalarWritten s
KindWritten (array low high s) = ConstantWritten low × ConstantWritten high × ScalarWritten s

abbrev pub VarWritten : Var Place → Type 0
VarWritten v = KindWritten v.kind

abbrev pub ParamWritten : Param Place → Type 0
ParamWritten v = ScalarWritten v.kind

abbrev mutual
  pub ExprWritten : Expr Place → Type 0
  ExprWritten (literal p n) = n ≤ greatest
  ExprWritten (truth p b) = Unit {0}
  ExprWritten (variable p name) = Unit {0}
  ExprWritten (element p name i) = ExprWritten i
  ExprWritten (call p name es) = ExprsWritten es
  ExprWritten (minus p e) = ExprWritten e
  ExprWritten (negation p e) = ExprWritten e
  ExprWritten (paren p e) = ExprWritten e
  ExprWritten (row e rs) = ExprWritten e × OperandsWritten rs

  pub ExprsWritten : Exprs Place → Type 0
  ExprsWritten no_exprs = Unit {0}
  ExprsWritten (exprs e es) = ExprWritten e × ExprsWritten es

  pub OperandsWritten : Operands Place → Type 0
  OperandsWritten no_operands = Unit {0}
  OperandsWritten (operand op e rs) = ExprWritten e × OperandsWritten rs

abbrev pub RefWritten : Ref Place → Type 0
RefWritten (whole p name) = Unit {0}
RefWritten (part p name i) = ExprWritten i

abbrev mutual
  pub StmtWritten : Stmt Place → Type 0
  StmtWritten (assign r e) = RefWritten r × ExprWritten e
  StmtWritten (assign_entry r mon p entry q es) = RefWritten r × ExprsWritten es
  StmtWritten (assign_empty r cond p) = RefWritten r
  StmtWritten (perform p name es) = ExprsWritten es
  StmtWritten (perform_entry p mon entry q es) = ExprsWritten es
  StmtWritten (when p e a) = ExprWritten e × StmtsWritten a
  StmtWritten (when_else p e a b) = ExprWritten e × StmtsWritten a × StmtsWritten b
  StmtWritten (loop p name q low high a) = ConstantWritten low × ConstantWritten high × StmtsWritten a
  StmtWritten (exit_when p e) = ExprWritten e
  StmtWritten (get p dev q r) = RefWritten r
  StmtWritten (put p dev q e) = ExprWritten e
  StmtWritten (wait p cond q limit number) = ConstantWritten limit × ConstantWritten number
  StmtWritten (signal p cond q) = Unit {0}
  StmtWritten (broadcast p cond q) = Unit {0}
  StmtWritten (except p number) = ConstantWritten number
  StmtWritten (assert p e) = ExprWritten e

  pub StmtsWritten : Stmts Place → Type 0
  StmtsWritten no_stmts = Unit {0}
  StmtsWritten (stmts s ss) = StmtWritten s × StmtsWritten ss

-- a function has a result type and a result, a procedure neither
abbrev pub ResultWritten : RoutineKind → Option (Scalar Place) → Option (Expr Place) → Type 0
ResultWritten procedure None None = Unit {0}
ResultWritten function (Some s) (Some e) = ScalarWritten s × ExprWritten e
ResultWritten kind result value = ⊥

pub record RoutineWritten (r : Routine Place) : Type 0 where
  pub params : All ParamWritten r.params
  pub vars : All VarWritten r.vars
  pub body : StmtsWritten r.body
  pub result : ResultWritten r.kind r.result r.value

abbrev pub MemberWritten : Member Place → Type 0
MemberWritten (variable_member v) = VarWritten v
MemberWritten (condition_member name p) = Unit {0}

pub record MonitorWritten (m : Monitor Place) : Type 0 where
  pub members : All MemberWritten m.members
  pub entries : All RoutineWritten m.entries

-- of a deadline or a first activation, where it is said
abbrev pub OptionalWritten : Option (Constant Place) → Type 0
OptionalWritten None = Unit {0}
OptionalWritten (Some c) = ConstantWritten c

abbrev pub ActivationWritten : Activation Place → Type 0
ActivationWritten (periodic frame deadline first) = ConstantWritten frame × OptionalWritten deadline × OptionalWritten first
ActivationWritten (at_event name p frame deadline) = ConstantWritten frame × OptionalWritten deadline

abbrev pub HandlerWritten : Option (Handler Place) → Type 0
HandlerWritten None = Unit {0}
HandlerWritten (Some h) = All ConstantWritten h.numbers × StmtsWritten h.body

pub record ProcessWritten (p : Process Place) : Type 0 where
  pub activation : ActivationWritten p.activation
  pub vars : All VarWritten p.vars
  pub routines : All RoutineWritten p.routines
  pub body : StmtsWritten p.body
  pub handler : HandlerWritten p.handler

abbrev pub DeclWritten : Decl Place → Type 0
DeclWritten (constant name p c) = ConstantWritten c
DeclWritten (device name p is_out) = Unit {0}
DeclWritten (event name p) = Unit {0}
DeclWritten (routine r) = RoutineWritten r
DeclWritten (monitor m) = MonitorWritten m
DeclWritten (process p) = ProcessWritten p

abbrev pub IsWritten : Prog Place → Type 0
IsWritten g = All DeclWritten g.decls

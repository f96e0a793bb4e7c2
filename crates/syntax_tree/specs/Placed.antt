-- Trees as plain data, with a place of any kind at each part: one case for each form of the
-- grammar, closing names included.
use Rattle.std.specs.Prelude.{ℕ, Bool, true, false, List, [], ◌∷◌, map, Option, Some, None, Box}
use Rattle.std.specs.Global.{Global}
use Rattle.syntax_tree.specs.Plain as plain_of
use Rattle.syntax_tree.specs.Plain.{Name, Op, or, and, equal, unequal, less, less_equal, greater, greater_equal, add, sub, mul, div, remainder}
use Rattle.syntax_tree.specs.declared.place.Place.{Place}
use Rattle.syntax_tree.specs.declared.expr.Op as code_op
use Rattle.syntax_tree.specs.declared.expr.Op.TheVariants as op_is
use Rattle.syntax_tree.specs.declared.expr.Value as code_value
use Rattle.syntax_tree.specs.declared.expr.Value.TheVariants as value_is
use Rattle.syntax_tree.specs.declared.expr.Constant as code_constant
use Rattle.syntax_tree.specs.declared.expr.Expr as code_expr
use Rattle.syntax_tree.specs.declared.expr.Expr.TheOpen.{Expr-F}
use Rattle.syntax_tree.specs.declared.stmt.Ref as code_ref
use Rattle.syntax_tree.specs.declared.stmt.Stmt as code_stmt
use Rattle.syntax_tree.specs.declared.stmt.Stmt.TheOpen.{Stmt-F}
use Rattle.syntax_tree.specs.declared.decl.Scalar as code_scalar
use Rattle.syntax_tree.specs.declared.decl.Scalar.TheVariants as scalar_is
use Rattle.syntax_tree.specs.declared.decl.Type as code_type
use Rattle.syntax_tree.specs.declared.decl.Type.TheVariants as type_is
use Rattle.syntax_tree.specs.declared.decl.Var as code_var
use Rattle.syntax_tree.specs.declared.decl.Param as code_param
use Rattle.syntax_tree.specs.declared.decl.RoutineKind as code_kind
use Rattle.syntax_tree.specs.declared.decl.RoutineKind.TheVariants as kind_is
use Rattle.syntax_tree.specs.declared.decl.Routine as code_routine
use Rattle.syntax_tree.specs.declared.decl.Member as code_member
use Rattle.syntax_tree.specs.declared.decl.Member.TheVariants as member_is
use Rattle.syntax_tree.specs.declared.decl.Monitor as code_mon
use Rattle.syntax_tree.specs.declared.decl.Trigger as code_activation
use Rattle.syntax_tree.specs.declared.decl.Trigger.TheVariants as activation_is
use Rattle.syntax_tree.specs.declared.decl.Handler as code_handler
use Rattle.syntax_tree.specs.declared.decl.Process as code_proc
use Rattle.syntax_tree.specs.declared.decl.Declaration as code_decl
use Rattle.syntax_tree.specs.declared.decl.Declaration.TheVariants as decl_is
use Rattle.syntax_tree.specs.declared.decl.Program as code_prog

-- a literal or the name of a constant, with or without a minus; the places are those of the first
-- token and of the literal or name
pub data Constant (P : Type 0) : Type 0 where
  literal_constant : (place : P) (minus : Bool) → ℕ → (value_place : P) → Constant P
  named_constant : (place : P) (minus : Bool) → Name → (value_place : P) → Constant P

pub data Scalar (P : Type 0) : Type 0 where
  int : Scalar P
  boolean : Scalar P
  subrange : (low high : Constant P) → Scalar P

pub data Kind (P : Type 0) : Type 0 where
  scalar : Scalar P → Kind P
  array : (low high : Constant P) → Scalar P → Kind P

pub record Var (P : Type 0) : Type 0 where
  pub name : Name
  pub place : P
  pub kind : Kind P

pub record Param (P : Type 0) : Type 0 where
  pub name : Name
  pub place : P
  pub kind : Scalar P

mutual
  pub data Expr (P : Type 0) : Type 0 where
    literal : P → ℕ → Expr P
    truth : P → Bool → Expr P
    variable : P → Name → Expr P
    element : P → Name → Expr P → Expr P
    call : P → Name → Exprs P → Expr P
    minus : P → Expr P → Expr P
    negation : P → Expr P → Expr P
    paren : P → Expr P → Expr P
    row : Expr P → Operands P → Expr P

  pub data Exprs (P : Type 0) : Type 0 where
    no_exprs : Exprs P
    exprs : Expr P → Exprs P → Exprs P

  -- the operators of one row, each with its right operand
  pub data Operands (P : Type 0) : Type 0 where
    no_operands : Operands P
    operand : Op → Expr P → Operands P → Operands P

-- what is assigned to
pub data Ref (P : Type 0) : Type 0 where
  whole : P → Name → Ref P
  part : P → Name → Expr P → Ref P

-- the place of a statement is that of its first token: its first place, or that of its reference
mutual
  pub data Stmt (P : Type 0) : Type 0 where
    assign : Ref P → Expr P → Stmt P
    assign_entry : Ref P → (mon : Name) → P → (entry : Name) → P → Exprs P → Stmt P
    assign_empty : Ref P → (cond : Name) → P → Stmt P
    perform : P → Name → Exprs P → Stmt P
    perform_entry : P → (mon : Name) → (entry : Name) → P → Exprs P → Stmt P
    when : P → Expr P → Stmts P → Stmt P
    when_else : P → Expr P → Stmts P → Stmts P → Stmt P
    loop : P → Name → P → (low high : Constant P) → Stmts P → Stmt P
    exit_when : P → Expr P → Stmt P
    get : P → (dev : Name) → P → Ref P → Stmt P
    put : P → (dev : Name) → P → Expr P → Stmt P
    wait : P → (cond : Name) → P → (limit number : Constant P) → Stmt P
    signal : P → (cond : Name) → P → Stmt P
    broadcast : P → (cond : Name) → P → Stmt P
    except : P → Constant P → Stmt P
    assert : P → Expr P → Stmt P

  pub data Stmts (P : Type 0) : Type 0 where
    no_stmts : Stmts P
    stmts : Stmt P → Stmts P → Stmts P

pub data RoutineKind : Type 0 where
  procedure : RoutineKind
  function : RoutineKind

-- the type and the expression of the result stand where the routine is a function
pub record Routine (P : Type 0) : Type 0 where
  pub kind : RoutineKind
  pub name : Name
  pub place : P
  pub params : List (Param P)
  pub result : Option (Scalar P)
  pub vars : List (Var P)
  pub body : Stmts P
  pub value : Option (Expr P)
  pub close : Name
  pub close_place : P

pub data Member (P : Type 0) : Type 0 where
  variable_member : Var P → Member P
  condition_member : Name → P → Member P

pub record Monitor (P : Type 0) : Type 0 where
  pub name : Name
  pub place : P
  pub members : List (Member P)
  pub entries : List (Routine P)
  pub close : Name
  pub close_place : P

pub data Activation (P : Type 0) : Type 0 where
  periodic : (frame : Constant P) → (deadline : Option (Constant P)) → (first : Option (Constant P)) → Activation P
  at_event : (event : Name) → P → (frame : Constant P) → (deadline : Option (Constant P)) → Activation P

pub record Handler (P : Type 0) : Type 0 where
  pub numbers : List (Constant P)
  pub body : Stmts P

pub record Process (P : Type 0) : Type 0 where
  pub name : Name
  pub place : P
  pub activation : Activation P
  pub vars : List (Var P)
  pub routines : List (Routine P)
  pub body : Stmts P
  pub handler : Option (Handler P)
  pub close : Name
  pub close_place : P

pub data Decl (P : Type 0) : Type 0 where
  constant : Name → P → Constant P → Decl P
  device : Name → P → (is_out : Bool) → Decl P
  event : Name → P → Decl P
  routine : Routine P → Decl P
  monitor : Monitor P → Decl P
  process : Process P → Decl P

pub record Prog (P : Type 0) : Type 0 where
  pub name : Name
  pub place : P
  pub decls : List (Decl P)
  pub close : Name
  pub close_place : P

-- what is there, changed
abbrev pub optional : {A B : Type 0} → (A → B) → Option A → Option B
optional f None = None
optional f (Some x) = Some (f x)

-- ---- trees without places and closing names

abbrev pub plain_constant : {P : Type 0} → Constant P → plain_of.Constant
plain_constant (literal_constant p is_minus n q) = plain_of.literal_constant is_minus n
plain_constant (named_constant p is_minus n q) = plain_of.named_constant is_minus n

abbrev pub plain_scalar : {P : Type 0} → Scalar P → plain_of.Scalar
plain_scalar int = plain_of.int
plain_scalar boolean = plain_of.boolean
plain_scalar (subrange low high) = plain_of.subrange (plain_constant low) (plain_constant high)

abbrev pub plain_kind : {P : Type 0} → Kind P → plain_of.Kind
plain_kind (scalar s) = plain_of.scalar (plain_scalar s)
plain_kind (array low high s) = plain_of.array (plain_constant low) (plain_constant high) (plain_scalar s)

abbrev pub plain_var : {P : Type 0} → Var P → plain_of.Var
plain_var v = record { name = v.name; kind = plain_kind v.kind }

abbrev pub plain_param : {P : Type 0} → Param P → plain_of.Param
plain_param v = record { name = v.name; kind = plain_scalar v.kind }

abbrev mutual
  pub plain_expr : {P : Type 0} → Expr P → plain_of.Expr
  plain_expr (literal p n) = plain_of.literal n
  plain_expr (truth p b) = plain_of.truth b
  plain_expr (variable p n) = plain_of.variable n
  plain_expr (element p n i) = plain_of.element n (plain_expr i)
  plain_expr (call p n es) = plain_of.call n (plain_exprs es)
  plain_expr (minus p e) = plain_of.minus (plain_expr e)
  plain_expr (negation p e) = plain_of.negation (plain_expr e)
  plain_expr (paren p e) = plain_of.paren (plain_expr e)
  plain_expr (row e rs) = plain_of.row (plain_expr e) (plain_operands rs)

  pub plain_exprs : {P : Type 0} → Exprs P → plain_of.Exprs
  plain_exprs no_exprs = plain_of.no_exprs
  plain_exprs (exprs e es) = plain_of.exprs (plain_expr e) (plain_exprs es)

  pub plain_operands : {P : Type 0} → Operands P → plain_of.Operands
  plain_operands no_operands = plain_of.no_operands
  plain_operands (operand op e rs) = plain_of.operand op (plain_expr e) (plain_operands rs)

abbrev pub plain_ref : {P : Type 0} → Ref P → plain_of.Ref
plain_ref (whole p n) = plain_of.whole n
plain_ref (part p n i) = plain_of.part n (plain_expr i)

abbrev mutual
  pub plain_stmt : {P : Type 0} → Stmt P → plain_of.Stmt
  plain_stmt (assign r e) = plain_of.assign (plain_ref r) (plain_expr e)
  plain_stmt (assign_entry r mon p entry q es) = plain_of.assign_entry (plain_ref r) mon entry (plain_exprs es)
  plain_stmt (assign_empty r cond p) = plain_of.assign_empty (plain_ref r) cond
  plain_stmt (perform p n es) = plain_of.perform n (plain_exprs es)
  plain_stmt (perform_entry p mon entry q es) = plain_of.perform_entry mon entry (plain_exprs es)
  plain_stmt (when p e a) = plain_of.when (plain_expr e) (plain_stmts a)
  plain_stmt (when_else p e a b) = plain_of.when_else (plain_expr e) (plain_stmts a) (plain_stmts b)
  plain_stmt (loop p n q low high a) = plain_of.loop n (plain_constant low) (plain_constant high) (plain_stmts a)
  plain_stmt (exit_when p e) = plain_of.exit_when (plain_expr e)
  plain_stmt (get p dev q r) = plain_of.get dev (plain_ref r)
  plain_stmt (put p dev q e) = plain_of.put dev (plain_expr e)
  plain_stmt (wait p cond q limit number) = plain_of.wait cond (plain_constant limit) (plain_constant number)
  plain_stmt (signal p cond q) = plain_of.signal cond
  plain_stmt (broadcast p cond q) = plain_of.broadcast cond
  plain_stmt (except p number) = plain_of.except (plain_constant number)
  plain_stmt (assert p e) = plain_of.assert (plain_expr e)

  pub plain_stmts : {P : Type 0} → Stmts P → plain_of.Stmts
  plain_stmts no_stmts = plain_of.no_stmts
  plain_stmts (stmts s ss) = plain_of.stmts (plain_stmt s) (plain_stmts ss)

-- a routine answers where it has the type and the expression of its result
abbrev pub plain_answers : {P : Type 0} → Option (Scalar P) → Option (Expr P) → Option plain_of.Answers
plain_answers (Some s) (Some e) = Some (record { kind = plain_scalar s; value = plain_expr e })
plain_answers _ _ = None

abbrev pub plain_routine : {P : Type 0} → Routine P → plain_of.Routine
plain_routine r = record {
  name = r.name;
  params = map plain_param r.params;
  vars = map plain_var r.vars;
  body = plain_stmts r.body;
  answers = plain_answers r.result r.value;
}

abbrev pub plain_member : {P : Type 0} → Member P → plain_of.Member
plain_member (variable_member v) = plain_of.variable_member (plain_var v)
plain_member (condition_member n p) = plain_of.condition_member n

abbrev pub plain_monitor : {P : Type 0} → Monitor P → plain_of.Monitor
plain_monitor m = record { name = m.name; members = map plain_member m.members; entries = map plain_routine m.entries }

abbrev pub plain_activation : {P : Type 0} → Activation P → plain_of.Trigger
plain_activation (periodic frame deadline first) = plain_of.periodic (plain_constant frame) (optional plain_constant deadline) (optional plain_constant first)
plain_activation (at_event e p frame deadline) = plain_of.at_event e (plain_constant frame) (optional plain_constant deadline)

abbrev pub plain_handler : {P : Type 0} → Handler P → plain_of.Handler
plain_handler h = record { numbers = map plain_constant h.numbers; body = plain_stmts h.body }

abbrev pub plain_process : {P : Type 0} → Process P → plain_of.Process
plain_process p = record {
  name = p.name;
  activation = plain_activation p.activation;
  vars = map plain_var p.vars;
  routines = map plain_routine p.routines;
  body = plain_stmts p.body;
  handler = optional plain_handler p.handler;
}

abbrev pub plain_decl : {P : Type 0} → Decl P → plain_of.Declaration
plain_decl (constant n p c) = plain_of.constant n (plain_constant c)
plain_decl (device n p is_out) = plain_of.device n is_out
plain_decl (event n p) = plain_of.event n
plain_decl (routine r) = plain_of.routine (plain_routine r)
plain_decl (monitor m) = plain_of.monitor (plain_monitor m)
plain_decl (process p) = plain_of.process (plain_process p)

-- the program without places and closing names
abbrev pub plain : {P : Type 0} → Prog P → plain_of.Program
plain g = record { name = g.name; decls = map plain_decl g.decls }

-- ---- the trees of the code

abbrev pub op_of : code_op.Op → Op
op_of op_is.Or = or
op_of op_is.And = and
op_of op_is.Equal = equal
op_of op_is.Unequal = unequal
op_of op_is.Less = less
op_of op_is.LessEqual = less_equal
op_of op_is.Greater = greater
op_of op_is.GreaterEqual = greater_equal
op_of op_is.Add = add
op_of op_is.Sub = sub
op_of op_is.Mul = mul
op_of op_is.Div = div
op_of op_is.Mod = remainder

abbrev pub constant_of : Place → Bool → code_value.Value → Place → Constant Place
constant_of p is_minus (value_is.Literal n) q = literal_constant p is_minus n q
constant_of p is_minus (value_is.Name n) q = named_constant p is_minus n q

abbrev pub placed_constant : code_constant.Constant → Constant Place
placed_constant c = constant_of c.place c.minus c.value c.value_place

abbrev pub placed_scalar : code_scalar.Scalar → Scalar Place
placed_scalar scalar_is.Int = int
placed_scalar scalar_is.Boolean = boolean
placed_scalar (scalar_is.Subrange low high) = subrange (placed_constant low) (placed_constant high)

abbrev pub placed_kind : code_type.Type → Kind Place
placed_kind (type_is.Scalar s) = scalar (placed_scalar s)
placed_kind (type_is.Array low high s) = array (placed_constant low) (placed_constant high) (placed_scalar s)

abbrev pub placed_var : code_var.Var → Var Place
placed_var v = record { name = v.name; place = v.place; kind = placed_kind v.kind }

abbrev pub placed_param : code_param.Param → Param Place
placed_param v = record { name = v.name; place = v.place; kind = placed_scalar v.kind }

abbrev pub exprs_of : {P : Type 0} → List (Expr P) → Exprs P
exprs_of [] = no_exprs
exprs_of (e ∷ es) = exprs e (exprs_of es)

abbrev pub operands_of : {P : Type 0} → List (code_op.Op × Expr P) → Operands P
operands_of [] = no_operands
operands_of (r ∷ rs) = operand (op_of r.0) r.1 (operands_of rs)

-- one form of the code's expressions, its parts being seen already
abbrev pub expr_step : Expr-F (Expr Place) → Expr Place
expr_step (Expr-F.Literal p n) = literal p n
expr_step (Expr-F.True p) = truth p true
expr_step (Expr-F.False p) = truth p false
expr_step (Expr-F.Variable p n) = variable p n
expr_step (Expr-F.Element p n i) = element p n i.value
expr_step (Expr-F.Call p n es) = call p n (exprs_of es)
expr_step (Expr-F.Minus p e) = minus p e.value
expr_step (Expr-F.Not p e) = negation p e.value
expr_step (Expr-F.Paren p e) = paren p e.value
expr_step (Expr-F.Chain e rs) = row e.value (operands_of rs)

abbrev pub placed_expr : code_expr.Expr → Expr Place
placed_expr = code_expr.fold-Expr (Expr Place) expr_step

abbrev pub placed_exprs : List code_expr.Expr → Exprs Place
placed_exprs es = exprs_of (map placed_expr es)

abbrev pub placed_operands : List (code_op.Op × code_expr.Expr) → Operands Place
placed_operands rs = operands_of (map (λ r. (r.0, placed_expr r.1)) rs)

abbrev pub ref_of : Place → Name → Option (Box code_expr.Expr Global) → Ref Place
ref_of p n None = whole p n
ref_of p n (Some i) = part p n (placed_expr i.value)

abbrev pub placed_ref : code_ref.Ref → Ref Place
placed_ref r = ref_of r.place r.name r.index

abbrev pub stmts_of : {P : Type 0} → List (Stmt P) → Stmts P
stmts_of [] = no_stmts
stmts_of (s ∷ ss) = stmts s (stmts_of ss)

abbrev pub choice_of : Place → Expr Place → List (Stmt Place) → Option (List (Stmt Place)) → Stmt Place
choice_of p e a None = when p e (stmts_of a)
choice_of p e a (Some b) = when_else p e (stmts_of a) (stmts_of b)

-- one form of the code's statements, its parts being seen already
abbrev pub stmt_step : Stmt-F (Stmt Place) → Stmt Place
stmt_step (Stmt-F.Assign r e) = assign (placed_ref r) (placed_expr e)
stmt_step (Stmt-F.AssignEntry r mon p entry q es) = assign_entry (placed_ref r) mon p entry q (placed_exprs es)
stmt_step (Stmt-F.AssignEmpty r cond p) = assign_empty (placed_ref r) cond p
stmt_step (Stmt-F.Call p n es) = perform p n (placed_exprs es)
stmt_step (Stmt-F.CallEntry p mon entry q es) = perform_entry p mon entry q (placed_exprs es)
stmt_step (Stmt-F.If p e a b) = choice_of p (placed_expr e) a b
stmt_step (Stmt-F.For p n q low high a) = loop p n q (placed_constant low.value) (placed_constant high.value) (stmts_of a)
stmt_step (Stmt-F.ExitWhen p e) = exit_when p (placed_expr e)
stmt_step (Stmt-F.Get p dev q r) = get p dev q (placed_ref r)
stmt_step (Stmt-F.Put p dev q e) = put p dev q (placed_expr e)
stmt_step (Stmt-F.Wait p cond q limit number) = wait p cond q (placed_constant limit.value) (placed_constant number.value)
stmt_step (Stmt-F.Signal p cond q) = signal p cond q
stmt_step (Stmt-F.Broadcast p cond q) = broadcast p cond q
stmt_step (Stmt-F.Except p number) = except p (placed_constant number)
stmt_step (Stmt-F.Assert p e) = assert p (placed_expr e)

abbrev pub placed_stmt : code_stmt.Stmt → Stmt Place
placed_stmt = code_stmt.fold-Stmt (Stmt Place) stmt_step

abbrev pub placed_stmts : List code_stmt.Stmt → Stmts Place
placed_stmts ss = stmts_of (map placed_stmt ss)

abbrev pub placed_routine_kind : code_kind.RoutineKind → RoutineKind
placed_routine_kind kind_is.Procedure = procedure
placed_routine_kind kind_is.Function = function

abbrev pub placed_routine : code_routine.Routine → Routine Place
placed_routine r = record {
  kind = placed_routine_kind r.kind;
  name = r.name;
  place = r.place;
  params = map placed_param r.params;
  result = optional placed_scalar r.result;
  vars = map placed_var r.vars;
  body = placed_stmts r.body;
  value = optional placed_expr r.value;
  close = r.close;
  close_place = r.close_place;
}

abbrev pub placed_member : code_member.Member → Member Place
placed_member (member_is.Var v) = variable_member (placed_var v)
placed_member (member_is.Condition n p) = condition_member n p

abbrev pub placed_monitor : code_mon.Monitor → Monitor Place
placed_monitor m = record {
  name = m.name;
  place = m.place;
  members = map placed_member m.members;
  entries = map placed_routine m.entries;
  close = m.close;
  close_place = m.close_place;
}

abbrev pub placed_activation : code_activation.Trigger → Activation Place
placed_activation (activation_is.Periodic frame deadline first) =
    periodic (placed_constant frame) (optional placed_constant deadline) (optional placed_constant first)
placed_activation (activation_is.AtEvent e p frame deadline) = at_event e p (placed_constant frame) (optional placed_constant deadline)

abbrev pub placed_handler : code_handler.Handler → Handler Place
placed_handler h = record { numbers = map placed_constant h.numbers; body = placed_stmts h.body }

abbrev pub placed_process : code_proc.Process → Process Place
placed_process p = record {
  name = p.name;
  place = p.place;
  activation = placed_activation p.activation;
  vars = map placed_var p.vars;
  routines = map placed_routine p.routines;
  body = placed_stmts p.body;
  handler = optional placed_handler p.handler;
  close = p.close;
  close_place = p.close_place;
}

abbrev pub placed_decl : code_decl.Declaration → Decl Place
placed_decl (decl_is.Const n p c) = constant n p (placed_constant c)
placed_decl (decl_is.Device n p is_out) = device n p is_out
placed_decl (decl_is.Event n p) = event n p
placed_decl (decl_is.Routine r) = routine (placed_routine r)
placed_decl (decl_is.Monitor m) = monitor (placed_monitor m)
placed_decl (decl_is.Process p) = process (placed_process p)

-- what contracts see of the code's tree
abbrev pub placed : code_prog.Program → Prog Place
placed g = record { name = g.name; place = g.place; decls = map placed_decl g.decls; close = g.close; close_place = g.close_place }

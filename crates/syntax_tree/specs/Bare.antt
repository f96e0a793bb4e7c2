-- Trees without places.
use Rattle.std.specs.Prelude.{List, map}
use Rattle.syntax_tree.specs.Placed.{Constant, literal_constant, named_constant, Scalar, int, boolean, subrange, Kind, scalar, array, Var, Param, Expr, literal, truth, variable, element, call, minus, negation, paren, row, Exprs, no_exprs, exprs, Operands, no_operands, operand, Ref, whole, part, Stmt, assign, assign_entry, assign_empty, perform, perform_entry, when, when_else, loop, exit_when, get, put, wait, signal, broadcast, except, assert, Stmts, no_stmts, stmts, Routine, Member, variable_member, condition_member, Monitor, Activation, periodic, at_event, Handler, Process, Decl, constant, device, event, routine, monitor, process, Prog, optional}

abbrev pub bare_constant : {P : Type 0} → Constant P → Constant (Unit {0})
bare_constant (literal_constant p is_minus n q) = literal_constant tt is_minus n tt
bare_constant (named_constant p is_minus n q) = named_constant tt is_minus n tt

abbrev pub bare_scalar : {P : Type 0} → Scalar P → Scalar (Unit {0})
bare_scalar int = int
bare_scalar boolean = boolean
bare_scalar (subrange low high) = subrange (bare_constant low) (bare_constant high)

abbrev pub bare_kind : {P : Type 0} → Kind P → Kind (Unit {0})
bare_kind (scalar s) = scalar (bare_scalar s)
bare_kind (array low high s) = array (bare_constant low) (bare_constant high) (bare_scalar s)

abbrev pub bare_var : {P : Type 0} → Var P → Var (Unit {0})
bare_var v = record { name = v.name; place = tt; kind = bare_kind v.kind }

abbrev pub bare_param : {P : Type 0} → Param P → Param (Unit {0})
bare_param v = record { name = v.name; place = tt; kind = bare_scalar v.kind }

abbrev mutual
  pub bare_expr : {P : Type 0} → Expr P → Expr (Unit {0})
  bare_expr (literal p n) = literal tt n
  bare_expr (truth p b) = truth tt b
  bare_expr (variable p n) = variable tt n
  bare_expr (element p n i) = element tt n (bare_expr i)
  bare_expr (call p n es) = call tt n (bare_exprs es)
  bare_expr (minus p e) = minus tt (bare_expr e)
  bare_expr (negation p e) = negation tt (bare_expr e)
  bare_expr (paren p e) = paren tt (bare_expr e)
  bare_expr (row e rs) = row (bare_expr e) (bare_operands rs)

  pub bare_exprs : {P : Type 0} → Exprs P → Exprs (Unit {0})
  bare_exprs no_exprs = no_exprs
  bare_exprs (exprs e es) = exprs (bare_expr e) (bare_exprs es)

  pub bare_operands : {P : Type 0} → Operands P → Operands (Unit {0})
  bare_operands no_operands = no_operands
  bare_operands (operand op e rs) = operand op (bare_expr e) (bare_operands rs)

abbrev pub bare_ref : {P : Type 0} → Ref P → Ref (Unit {0})
bare_ref (whole p n) = whole tt n
bare_ref (part p n i) = part tt n (bare_expr i)

abbrev mutual
  pub bare_stmt : {P : Type 0} → Stmt P → Stmt (Unit {0})
  bare_stmt (assign r e) = assign (bare_ref r) (bare_expr e)
  bare_stmt (assign_entry r mon p entry q es) = assign_entry (bare_ref r) mon tt entry tt (bare_exprs es)
  bare_stmt (assign_empty r cond p) = assign_empty (bare_ref r) cond tt
  bare_stmt (perform p n es) = perform tt n (bare_exprs es)
  bare_stmt (perform_entry p mon entry q es) = perform_entry tt mon entry tt (bare_exprs es)
  bare_stmt (when p e a) = when tt (bare_expr e) (bare_stmts a)
  bare_stmt (when_else p e a b) = when_else tt (bare_expr e) (bare_stmts a) (bare_stmts b)
  bare_stmt (loop p n q low high a) = loop tt n tt (bare_constant low) (bare_constant high) (bare_stmts a)
  bare_stmt (exit_when p e) = exit_when tt (bare_expr e)
  bare_stmt (get p dev q r) = get tt dev tt (bare_ref r)
  bare_stmt (put p dev q e) = put tt dev tt (bare_expr e)
  bare_stmt (wait p cond q limit number) = wait tt cond tt (bare_constant limit) (bare_constant number)
  bare_stmt (signal p cond q) = signal tt cond tt
  bare_stmt (broadcast p cond q) = broadcast tt cond tt
  bare_stmt (except p number) = except tt (bare_constant number)
  bare_stmt (assert p e) = assert tt (bare_expr e)

  pub bare_stmts : {P : Type 0} → Stmts P → Stmts (Unit {0})
  bare_stmts no_stmts = no_stmts
  bare_stmts (stmts s ss) = stmts (bare_stmt s) (bare_stmts ss)

abbrev pub bare_routine : {P : Type 0} → Routine P → Routine (Unit {0})
bare_routine r = record {
  kind = r.kind;
  name = r.name;
  place = tt;
  params = map bare_param r.params;
  result = optional bare_scalar r.result;
  vars = map bare_var r.vars;
  body = bare_stmts r.body;
  value = optional bare_expr r.value;
  close = r.close;
  close_place = tt;
}

abbrev pub bare_member : {P : Type 0} → Member P → Member (Unit {0})
bare_member (variable_member v) = variable_member (bare_var v)
bare_member (condition_member n p) = condition_member n tt

abbrev pub bare_monitor : {P : Type 0} → Monitor P → Monitor (Unit {0})
bare_monitor m = record {
  name = m.name;
  place = tt;
  members = map bare_member m.members;
  entries = map bare_routine m.entries;
  close = m.close;
  close_place = tt;
}

abbrev pub bare_activation : {P : Type 0} → Activation P → Activation (Unit {0})
bare_activation (periodic frame deadline first) = periodic (bare_constant frame) (optional bare_constant deadline) (optional bare_constant first)
bare_activation (at_event e p frame deadline) = at_event e tt (bare_constant frame) (optional bare_constant deadline)

abbrev pub bare_handler : {P : Type 0} → Handler P → Handler (Unit {0})
bare_handler h = record { numbers = map bare_constant h.numbers; body = bare_stmts h.body }

abbrev pub bare_process : {P : Type 0} → Process P → Process (Unit {0})
bare_process p = record {
  name = p.name;
  place = tt;
  activation = bare_activation p.activation;
  vars = map bare_var p.vars;
  routines = map bare_routine p.routines;
  body = bare_stmts p.body;
  handler = optional bare_handler p.handler;
  close = p.close;
  close_place = tt;
}

abbrev pub bare_decl : {P : Type 0} → Decl P → Decl (Unit {0})
bare_decl (constant n p c) = constant n tt (bare_constant c)
bare_decl (device n p is_out) = device n tt is_out
bare_decl (event n p) = event n tt
bare_decl (routine r) = routine (bare_routine r)
bare_decl (monitor m) = monitor (bare_monitor m)
bare_decl (process p) = process (bare_process p)

-- the tree without places and with all else: two trees are equal apart from places where their bare
-- trees are equal
abbrev pub bare : {P : Type 0} → Prog P → Prog (Unit {0})
bare g = record { name = g.name; place = tt; decls = map bare_decl g.decls; close = g.close; close_place = tt }

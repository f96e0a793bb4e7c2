-- Trees with other places: each place is replaced by what a function makes of it.
use Rattle.std.specs.Prelude.{map}
use Rattle.syntax_tree.specs.Placed.{Constant, literal_constant, named_constant, Scalar, int, boolean, subrange, Kind, scalar, array, Var, Param, Expr, literal, truth, variable, element, call, minus, negation, paren, row, Exprs, no_exprs, exprs, Operands, no_operands, operand, Ref, whole, part, Stmt, assign, assign_entry, assign_empty, perform, perform_entry, when, when_else, loop, exit_when, get, put, wait, signal, broadcast, except, assert, Stmts, no_stmts, stmts, Routine, Member, variable_member, condition_member, Monitor, Activation, periodic, at_event, Handler, Process, Decl, constant, device, event, routine, monitor, process, Prog, optional}

abbrev pub moved_constant : {P Q : Type 0} → (P → Q) → Constant P → Constant Q
moved_constant f (literal_constant p is_minus n q) = literal_constant (f p) is_minus n (f q)
moved_constant f (named_constant p is_minus n q) = named_constant (f p) is_minus n (f q)

abbrev pub moved_scalar : {P Q : Type 0} → (P → Q) → Scalar P → Scalar Q
moved_scalar f int = int
moved_scalar f boolean = boolean
moved_scalar f (subrange low high) = subrange (moved_constant f low) (moved_constant f high)

abbrev pub moved_kind : {P Q : Type 0} → (P → Q) → Kind P → Kind Q
moved_kind f (scalar s) = scalar (moved_scalar f s)
moved_kind f (array low high s) = array (moved_constant f low) (moved_constant f high) (moved_scalar f s)

abbrev pub moved_var : {P Q : Type 0} → (P → Q) → Var P → Var Q
moved_var f v = record { name = v.name; place = f v.place; kind = moved_kind f v.kind }

abbrev pub moved_param : {P Q : Type 0} → (P → Q) → Param P → Param Q
moved_param f v = record { name = v.name; place = f v.place; kind = moved_scalar f v.kind }

abbrev mutual
  pub moved_expr : {P Q : Type 0} → (P → Q) → Expr P → Expr Q
  moved_expr f (literal p n) = literal (f p) n
  moved_expr f (truth p b) = truth (f p) b
  moved_expr f (variable p n) = variable (f p) n
  moved_expr f (element p n i) = element (f p) n (moved_expr f i)
  moved_expr f (call p n es) = call (f p) n (moved_exprs f es)
  moved_expr f (minus p e) = minus (f p) (moved_expr f e)
  moved_expr f (negation p e) = negation (f p) (moved_expr f e)
  moved_expr f (paren p e) = paren (f p) (moved_expr f e)
  moved_expr f (row e rs) = row (moved_expr f e) (moved_operands f rs)

  pub moved_exprs : {P Q : Type 0} → (P → Q) → Exprs P → Exprs Q
  moved_exprs f no_exprs = no_exprs
  moved_exprs f (exprs e es) = exprs (moved_expr f e) (moved_exprs f es)

  pub moved_operands : {P Q : Type 0} → (P → Q) → Operands P → Operands Q
  moved_operands f no_operands = no_operands
  moved_operands f (operand op e rs) = operand op (moved_expr f e) (moved_operands f rs)

abbrev pub moved_ref : {P Q : Type 0} → (P → Q) → Ref P → Ref Q
moved_ref f (whole p n) = whole (f p) n
moved_ref f (part p n i) = part (f p) n (moved_expr f i)

abbrev mutual
  pub moved_stmt : {P Q : Type 0} → (P → Q) → Stmt P → Stmt Q
  moved_stmt f (assign r e) = assign (moved_ref f r) (moved_expr f e)
  moved_stmt f (assign_entry r mon p entry q es) = assign_entry (moved_ref f r) mon (f p) entry (f q) (moved_exprs f es)
  moved_stmt f (assign_empty r cond p) = assign_empty (moved_ref f r) cond (f p)
  moved_stmt f (perform p n es) = perform (f p) n (moved_exprs f es)
  moved_stmt f (perform_entry p mon entry q es) = perform_entry (f p) mon entry (f q) (moved_exprs f es)
  moved_stmt f (when p e a) = when (f p) (moved_expr f e) (moved_stmts f a)
  moved_stmt f (when_else p e a b) = when_else (f p) (moved_expr f e) (moved_stmts f a) (moved_stmts f b)
  moved_stmt f (loop p n q low high a) = loop (f p) n (f q) (moved_constant f low) (moved_constant f high) (moved_stmts f a)
  moved_stmt f (exit_when p e) = exit_when (f p) (moved_expr f e)
  moved_stmt f (get p dev q r) = get (f p) dev (f q) (moved_ref f r)
  moved_stmt f (put p dev q e) = put (f p) dev (f q) (moved_expr f e)
  moved_stmt f (wait p cond q limit number) = wait (f p) cond (f q) (moved_constant f limit) (moved_constant f number)
  moved_stmt f (signal p cond q) = signal (f p) cond (f q)
  moved_stmt f (broadcast p cond q) = broadcast (f p) cond (f q)
  moved_stmt f (except p number) = except (f p) (moved_constant f number)
  moved_stmt f (assert p e) = assert (f p) (moved_expr f e)

  pub moved_stmts : {P Q : Type 0} → (P → Q) → Stmts P → Stmts Q
  moved_stmts f no_stmts = no_stmts
  moved_stmts f (stmts s ss) = stmts (moved_stmt f s) (moved_stmts f ss)

abbrev pub moved_routine : {P Q : Type 0} → (P → Q) → Routine P → Routine Q
moved_routine f r = record {
  kind = r.kind;
  name = r.name;
  place = f r.place;
  params = map (moved_param f) r.params;
  result = optional (moved_scalar f) r.result;
  vars = map (moved_var f) r.vars;
  body = moved_stmts f r.body;
  value = optional (moved_expr f) r.value;
  close = r.close;
  close_place = f r.close_place;
}

abbrev pub moved_member : {P Q : Type 0} → (P → Q) → Member P → Member Q
moved_member f (variable_member v) = variable_member (moved_var f v)
moved_member f (condition_member n p) = condition_member n (f p)

abbrev pub moved_monitor : {P Q : Type 0} → (P → Q) → Monitor P → Monitor Q
moved_monitor f m = record {
  name = m.name;
  place = f m.place;
  members = map (moved_member f) m.members;
  entries = map (moved_routine f) m.entries;
  close = m.close;
  close_place = f m.close_place;
}

abbrev pub moved_activation : {P Q : Type 0} → (P → Q) → Activation P → Activation Q
moved_activation f (periodic frame deadline first) = periodic (moved_constant f frame) (optional (moved_constant f) deadline) (optional (moved_constant f) first)
moved_activation f (at_event e p frame deadline) = at_event e (f p) (moved_constant f frame) (optional (moved_constant f) deadline)

abbrev pub moved_handler : {P Q : Type 0} → (P → Q) → Handler P → Handler Q
moved_handler f h = record { numbers = map (moved_constant f) h.numbers; body = moved_stmts f h.body }

abbrev pub moved_process : {P Q : Type 0} → (P → Q) → Process P → Process Q
moved_process f p = record {
  name = p.name;
  place = f p.place;
  activation = moved_activation f p.activation;
  vars = map (moved_var f) p.vars;
  routines = map (moved_routine f) p.routines;
  body = moved_stmts f p.body;
  handler = optional (moved_handler f) p.handler;
  close = p.close;
  close_place = f p.close_place;
}

abbrev pub moved_decl : {P Q : Type 0} → (P → Q) → Decl P → Decl Q
moved_decl f (constant n p c) = constant n (f p) (moved_constant f c)
moved_decl f (device n p is_out) = device n (f p) is_out
moved_decl f (event n p) = event n (f p)
moved_decl f (routine r) = routine (moved_routine f r)
moved_decl f (monitor m) = monitor (moved_monitor f m)
moved_decl f (process p) = process (moved_process f p)

-- the tree with what the function makes of its places
abbrev pub moved : {P Q : Type 0} → (P → Q) → Prog P → Prog Q
moved f g = record { name = g.name; place = f g.place; decls = map (moved_decl f) g.decls; close = g.close; close_place = f g.close_place }

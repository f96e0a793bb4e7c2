-- The names, the statements and results, and the bounds of each part of a program stand before what comes behind.
use Rattle.std.proofs.Common.{Bool, List, [], ◌∷◌, ◌++◌, Option, Some, None}
use Rattle.syntax_tree.specs.Plain.{Name}
use Rattle.syntax_tree.specs.Placed.{Constant, literal_constant, named_constant, Scalar, int, boolean, subrange, Kind, scalar, array, Var, Param, Expr, literal, truth, variable, element, call, minus, negation, paren, row, Exprs, no_exprs, exprs, Operands, no_operands, operand, Ref, whole, part, Stmt, assign, assign_entry, assign_empty, perform, perform_entry, when, when_else, loop, exit_when, get, put, wait, signal, broadcast, except, assert, Stmts, no_stmts, stmts, Routine, Member, variable_member, condition_member, Monitor, Activation, periodic, at_event, Handler, Process, Decl, constant, device, event, routine, monitor, process}
use Rattle.syntax_tree.specs.declared.place.Place.{Place}
use Rattle.static_names.specs.Reach.{Names, Reach, Site, inside, inside_monitor}
use Rattle.static_names.specs.Occurrences.{Occurrence, declarations, constant_names, constants_names, scalar_names, kind_names, expr_names, exprs_names, operands_names, ref_names, entry_names, loop_name, stmt_names, stmts_names, vars_names, params_names, member_inner, members_names, optional_names, routine_scope, routine_inner, routine_names, routines_names, monitor_scope, monitor_inner, monitor_names, activation_names, handler_names, process_scope, process_inner, process_names, inner_names}
use Rattle.static_declarations.specs.declared.home.Where.{Where}
use Rattle.static_declarations.specs.Parts.{looped, stmt_parts, stmts_parts, outside_loops, home_of, answer_parts, routine_parts, routines_parts}
use Rattle.static_numbers.specs.Types.{scalar_bounds, kind_bounds, vars_bounds, params_bounds, result_bounds, routine_bounds, routines_bounds, member_bounds, members_bounds, decl_bounds}
use Rattle.wellformed_law.proofs.Lists.{Adds, nothing_more, both, one_more}

-- ---- names

pub constant_adds : (s : Site) (c : Constant Place) → Adds (constant_names s c)
constant_adds s (literal_constant p is_minus n q) = nothing_more
constant_adds s (named_constant p is_minus name q) = one_more _ nothing_more

pub constants_add : (s : Site) (cs : List (Constant Place)) → Adds (constants_names s cs)
constants_add s [] = nothing_more
constants_add s (c ∷ cs) = both (constant_adds s c) (constants_add s cs)

pub scalar_adds : (s : Site) (k : Scalar Place) → Adds (scalar_names s k)
scalar_adds s int = nothing_more
scalar_adds s boolean = nothing_more
scalar_adds s (subrange low high) = both (constant_adds s low) (constant_adds s high)

pub kind_adds : (s : Site) (k : Kind Place) → Adds (kind_names s k)
kind_adds s (scalar k) = scalar_adds s k
kind_adds s (array low high k) = both (constant_adds s low) (both (constant_adds s high) (scalar_adds s k))

mutual
  pub expr_adds : (s : Site) (e : Expr Place) → Adds (expr_names s e)
  expr_adds s (literal p n) = nothing_more
  expr_adds s (truth p b) = nothing_more
  expr_adds s (variable p name) = one_more _ nothing_more
  expr_adds s (element p name i) = one_more _ (expr_adds s i)
  expr_adds s (call p name es) = one_more _ (exprs_add s es)
  expr_adds s (minus p e) = expr_adds s e
  expr_adds s (negation p e) = expr_adds s e
  expr_adds s (paren p e) = expr_adds s e
  expr_adds s (row e rs) = both (expr_adds s e) (operands_add s rs)

  pub exprs_add : (s : Site) (es : Exprs Place) → Adds (exprs_names s es)
  exprs_add s no_exprs = nothing_more
  exprs_add s (exprs e es) = both (expr_adds s e) (exprs_add s es)

  pub operands_add : (s : Site) (rs : Operands Place) → Adds (operands_names s rs)
  operands_add s no_operands = nothing_more
  operands_add s (operand op e rs) = both (expr_adds s e) (operands_add s rs)

pub ref_adds : (s : Site) (r : Ref Place) → Adds (ref_names s r)
ref_adds s (whole p name) = one_more _ nothing_more
ref_adds s (part p name i) = one_more _ (expr_adds s i)

pub entry_adds : (s : Site) (mon : Name) (p : Place) (entry : Name) (q : Place) → Adds (entry_names s mon p entry q)
entry_adds s mon p entry q = one_more _ (one_more _ nothing_more)

pub declarations_add : (outside : Reach) (earlier scope : Names) → Adds (declarations outside earlier scope)
declarations_add outside earlier [] = nothing_more
declarations_add outside earlier (d ∷ ds) = one_more _ (declarations_add outside (earlier ++ d ∷ []) ds)

mutual
  pub stmt_adds : (s : Site) (t : Stmt Place) → Adds (stmt_names s t)
  stmt_adds s (assign r e) = both (ref_adds s r) (expr_adds s e)
  stmt_adds s (assign_entry r mon p entry q es) = both (ref_adds s r) (both (entry_adds s mon p entry q) (exprs_add s es))
  stmt_adds s (assign_empty r cond p) = both (ref_adds s r) (one_more _ nothing_more)
  stmt_adds s (perform p name es) = one_more _ (exprs_add s es)
  stmt_adds s (perform_entry p mon entry q es) = both (entry_adds s mon p entry q) (exprs_add s es)
  stmt_adds s (when p e a) = both (expr_adds s e) (stmts_add s a)
  stmt_adds s (when_else p e a b) = both (expr_adds s e) (both (stmts_add s a) (stmts_add s b))
  stmt_adds s (loop p name q low high a) = both (declarations_add s.means [] (loop_name name q ∷ [])) (both (constant_adds s low) (both (constant_adds s high) (stmts_add (inside (loop_name name q ∷ []) s) a)))
  stmt_adds s (exit_when p e) = expr_adds s e
  stmt_adds s (get p dev q r) = one_more _ (ref_adds s r)
  stmt_adds s (put p dev q e) = one_more _ (expr_adds s e)
  stmt_adds s (wait p cond q limit number) = one_more _ (both (constant_adds s limit) (constant_adds s number))
  stmt_adds s (signal p cond q) = one_more _ nothing_more
  stmt_adds s (broadcast p cond q) = one_more _ nothing_more
  stmt_adds s (except p number) = constant_adds s number
  stmt_adds s (assert p e) = expr_adds s e

  pub stmts_add : (s : Site) (ts : Stmts Place) → Adds (stmts_names s ts)
  stmts_add s no_stmts = nothing_more
  stmts_add s (stmts t ts) = both (stmt_adds s t) (stmts_add s ts)

pub vars_add : (s : Site) (vs : List (Var Place)) → Adds (vars_names s vs)
vars_add s [] = nothing_more
vars_add s (v ∷ vs) = both (kind_adds s v.kind) (vars_add s vs)

pub params_add : (s : Site) (vs : List (Param Place)) → Adds (params_names s vs)
params_add s [] = nothing_more
params_add s (v ∷ vs) = both (scalar_adds s v.kind) (params_add s vs)

pub member_adds : (s : Site) (m : Member Place) → Adds (member_inner s m)
member_adds s (variable_member v) = kind_adds s v.kind
member_adds s (condition_member name p) = nothing_more

pub members_add : (s : Site) (ms : List (Member Place)) → Adds (members_names s ms)
members_add s [] = nothing_more
members_add s (m ∷ ms) = both (member_adds s m) (members_add s ms)

pub optional_adds : {X : Type 0} (f : X → List Occurrence → List Occurrence) → ((x : X) → Adds (f x)) → (o : Option X) → Adds (optional_names f o)
optional_adds f h None = nothing_more
optional_adds f h (Some x) = h x

pub routine_inner_adds : (s : Site) (r : Routine Place) → Adds (routine_inner s r)
routine_inner_adds s r = both (params_add s r.params) (both (optional_adds (scalar_names s) (scalar_adds s) r.result) (both (vars_add s r.vars) (both (stmts_add s r.body) (both (optional_adds (expr_names s) (expr_adds s) r.value) (one_more _ nothing_more)))))

pub routine_adds : (s : Site) (r : Routine Place) → Adds (routine_names s r)
routine_adds s r = both (declarations_add s.means [] (routine_scope r)) (routine_inner_adds (inside (routine_scope r) s) r)

pub routines_add : (s : Site) (rs : List (Routine Place)) → Adds (routines_names s rs)
routines_add s [] = nothing_more
routines_add s (r ∷ rs) = both (routine_adds s r) (routines_add s rs)

pub monitor_inner_adds : (s : Site) (m : Monitor Place) → Adds (monitor_inner s m)
monitor_inner_adds s m = both (members_add s m.members) (both (routines_add s m.entries) (one_more _ nothing_more))

pub monitor_adds : (s : Site) (m : Monitor Place) → Adds (monitor_names s m)
monitor_adds s m = both (declarations_add s.means [] (monitor_scope m)) (monitor_inner_adds (inside_monitor m.place (monitor_scope m) s) m)

pub activation_adds : (s : Site) (a : Activation Place) → Adds (activation_names s a)
activation_adds s (periodic frame deadline start) =
    both (constant_adds s frame) (both (optional_adds (constant_names s) (constant_adds s) deadline) (optional_adds (constant_names s) (constant_adds s) start))
activation_adds s (at_event name place frame deadline) = one_more _ (both (constant_adds s frame) (optional_adds (constant_names s) (constant_adds s) deadline))

pub handler_adds : (s : Site) (h : Handler Place) → Adds (handler_names s h)
handler_adds s h = both (constants_add s h.numbers) (stmts_add s h.body)

pub process_inner_adds : (s : Site) (p : Process Place) → Adds (process_inner s p)
process_inner_adds s p = both (activation_adds s p.activation) (both (vars_add s p.vars) (both (routines_add s p.routines) (both (stmts_add s p.body) (both (optional_adds (handler_names s) (handler_adds s) p.handler) (one_more _ nothing_more)))))

pub process_adds : (s : Site) (p : Process Place) → Adds (process_names s p)
process_adds s p = both (declarations_add s.means [] (process_scope p)) (process_inner_adds (inside (process_scope p) s) p)

pub inner_adds : (s : Site) (d : Decl Place) → Adds (inner_names s d)
inner_adds s (constant name place c) = constant_adds s c
inner_adds s (device name place is_out) = nothing_more
inner_adds s (event name place) = nothing_more
inner_adds s (routine r) = routine_adds s r
inner_adds s (monitor m) = monitor_adds s m
inner_adds s (process p) = process_adds s p

-- ---- statements and results

mutual
  pub stmt_parts_add : (w : Where) (t : Stmt Place) → Adds (stmt_parts w t)
  stmt_parts_add w (assign r e) = one_more _ nothing_more
  stmt_parts_add w (assign_entry r mon p entry q es) = one_more _ nothing_more
  stmt_parts_add w (assign_empty r cond p) = one_more _ nothing_more
  stmt_parts_add w (perform p name es) = one_more _ nothing_more
  stmt_parts_add w (perform_entry p mon entry q es) = one_more _ nothing_more
  stmt_parts_add w (when p e a) = one_more _ (stmts_parts_add w a)
  stmt_parts_add w (when_else p e a b) = one_more _ (both (stmts_parts_add w a) (stmts_parts_add w b))
  stmt_parts_add w (loop p name q low high a) = one_more _ (stmts_parts_add (looped w) a)
  stmt_parts_add w (exit_when p e) = one_more _ nothing_more
  stmt_parts_add w (get p dev q r) = one_more _ nothing_more
  stmt_parts_add w (put p dev q e) = one_more _ nothing_more
  stmt_parts_add w (wait p cond q limit number) = one_more _ nothing_more
  stmt_parts_add w (signal p cond q) = one_more _ nothing_more
  stmt_parts_add w (broadcast p cond q) = one_more _ nothing_more
  stmt_parts_add w (except p number) = one_more _ nothing_more
  stmt_parts_add w (assert p e) = one_more _ nothing_more

  pub stmts_parts_add : (w : Where) (ts : Stmts Place) → Adds (stmts_parts w ts)
  stmts_parts_add w no_stmts = nothing_more
  stmts_parts_add w (stmts t ts) = both (stmt_parts_add w t) (stmts_parts_add w ts)

pub answer_parts_add : (name : Place) (s : Option (Scalar Place)) (e : Option (Expr Place)) → Adds (answer_parts name s e)
answer_parts_add name (Some s) (Some e) = one_more _ nothing_more
answer_parts_add name (Some s) None = nothing_more
answer_parts_add name None e = nothing_more

pub routine_parts_add : (is_entry : Bool) (r : Routine Place) → Adds (routine_parts is_entry r)
routine_parts_add is_entry r = both (stmts_parts_add (outside_loops (home_of is_entry r.kind r.place)) r.body) (answer_parts_add r.place r.result r.value)

pub routines_parts_add : (is_entry : Bool) (rs : List (Routine Place)) → Adds (routines_parts is_entry rs)
routines_parts_add is_entry [] = nothing_more
routines_parts_add is_entry (r ∷ rs) = both (routine_parts_add is_entry r) (routines_parts_add is_entry rs)

-- ---- bounds

pub scalar_bounds_add : (k : Scalar Place) → Adds (scalar_bounds k)
scalar_bounds_add int = nothing_more
scalar_bounds_add boolean = nothing_more
scalar_bounds_add (subrange low high) = one_more _ nothing_more

pub kind_bounds_add : (k : Kind Place) → Adds (kind_bounds k)
kind_bounds_add (scalar k) = scalar_bounds_add k
kind_bounds_add (array low high k) = one_more _ (scalar_bounds_add k)

pub vars_bounds_add : (vs : List (Var Place)) → Adds (vars_bounds vs)
vars_bounds_add [] = nothing_more
vars_bounds_add (v ∷ vs) = both (kind_bounds_add v.kind) (vars_bounds_add vs)

pub params_bounds_add : (vs : List (Param Place)) → Adds (params_bounds vs)
params_bounds_add [] = nothing_more
params_bounds_add (v ∷ vs) = both (scalar_bounds_add v.kind) (params_bounds_add vs)

pub result_bounds_add : (o : Option (Scalar Place)) → Adds (result_bounds o)
result_bounds_add None = nothing_more
result_bounds_add (Some k) = scalar_bounds_add k

pub routine_bounds_add : (r : Routine Place) → Adds (routine_bounds r)
routine_bounds_add r = both (params_bounds_add r.params) (both (result_bounds_add r.result) (vars_bounds_add r.vars))

pub routines_bounds_add : (rs : List (Routine Place)) → Adds (routines_bounds rs)
routines_bounds_add [] = nothing_more
routines_bounds_add (r ∷ rs) = both (routine_bounds_add r) (routines_bounds_add rs)

pub member_bounds_add : (m : Member Place) → Adds (member_bounds m)
member_bounds_add (variable_member v) = kind_bounds_add v.kind
member_bounds_add (condition_member name p) = nothing_more

pub members_bounds_add : (ms : List (Member Place)) → Adds (members_bounds ms)
members_bounds_add [] = nothing_more
members_bounds_add (m ∷ ms) = both (member_bounds_add m) (members_bounds_add ms)

pub decl_bounds_add : (d : Decl Place) → Adds (decl_bounds d)
decl_bounds_add (constant name p c) = nothing_more
decl_bounds_add (device name p is_out) = nothing_more
decl_bounds_add (event name p) = nothing_more
decl_bounds_add (routine r) = routine_bounds_add r
decl_bounds_add (monitor m) = both (members_bounds_add m.members) (routines_bounds_add m.entries)
decl_bounds_add (process p) = both (vars_bounds_add p.vars) (routines_bounds_add p.routines)

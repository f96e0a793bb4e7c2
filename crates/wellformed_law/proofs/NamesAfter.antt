-- The names of a part end in those that come after it.
use Rattle.std.proofs.Common.{List, [], ◌∷◌, Option, Some, None}
use Rattle.syntax_tree.specs.Placed.{Constant, literal_constant, named_constant, Scalar, int, boolean, subrange, Kind, scalar, array, Var, Param, Expr, literal, truth, variable, element, call, minus, negation, paren, row, Exprs, no_exprs, exprs, Operands, no_operands, operand, Ref, whole, part, Stmt, assign, assign_entry, assign_empty, perform, perform_entry, when, when_else, loop, exit_when, get, put, wait, signal, broadcast, except, assert, Stmts, no_stmts, stmts, Routine, Member, variable_member, condition_member, Monitor, Activation, periodic, at_event, Handler, Process, Decl, constant, device, event, routine, monitor, process}
use Rattle.syntax_tree.specs.declared.place.Place.{Place}
use Rattle.static_names.specs.Reach.{Site, Reach, Names, inside, inside_monitor}
use Rattle.static_names.specs.Occurrences.{Occurrence, declarations, constant_names, constants_names, scalar_names, kind_names, expr_names, exprs_names, operands_names, ref_names, loop_name, stmt_names, stmts_names, vars_names, params_names, member_inner, members_names, optional_names, routine_scope, routine_inner, routine_names, routines_names, monitor_scope, monitor_names, activation_names, handler_names, process_scope, process_inner, process_names, inner_names}
use Rattle.wellformed_law.proofs.Members.{Ends, ends-same, ends-cons, ends-two}

pub ends-declarations : (outside : Reach) (earlier ds : Names) (more : List Occurrence) → Ends more (declarations outside earlier ds more)
ends-declarations outside earlier [] more = ends-same _
ends-declarations outside earlier (d ∷ ds) more = ends-cons _ (ends-declarations outside _ ds _)

pub ends-constant : (here : Site) (c : Constant Place) (more : List Occurrence) → Ends more (constant_names here c more)
ends-constant here (literal_constant p m n q) more = ends-same _
ends-constant here (named_constant p m n q) more = ends-cons _ (ends-same _)

pub ends-constants : (here : Site) (cs : List (Constant Place)) (more : List Occurrence) → Ends more (constants_names here cs more)
ends-constants here [] more = ends-same _
ends-constants here (c ∷ cs) more = ends-two (ends-constants here cs _) (ends-constant here c _)

pub ends-scalar : (here : Site) (s : Scalar Place) (more : List Occurrence) → Ends more (scalar_names here s more)
ends-scalar here int more = ends-same _
ends-scalar here boolean more = ends-same _
ends-scalar here (subrange low high) more = ends-two (ends-constant here high _) (ends-constant here low _)

pub ends-kind : (here : Site) (k : Kind Place) (more : List Occurrence) → Ends more (kind_names here k more)
ends-kind here (scalar s) more = ends-scalar here s _
ends-kind here (array low high s) more = ends-two (ends-two (ends-scalar here s _) (ends-constant here high _)) (ends-constant here low _)

mutual
  pub ends-expr : (here : Site) (e : Expr Place) (more : List Occurrence) → Ends more (expr_names here e more)
  ends-expr here (literal p n) more = ends-same _
  ends-expr here (truth p b) more = ends-same _
  ends-expr here (variable p n) more = ends-cons _ (ends-same _)
  ends-expr here (element p n i) more = ends-cons _ (ends-expr here i _)
  ends-expr here (call p n es) more = ends-cons _ (ends-exprs here es _)
  ends-expr here (minus p e) more = ends-expr here e _
  ends-expr here (negation p e) more = ends-expr here e _
  ends-expr here (paren p e) more = ends-expr here e _
  ends-expr here (row e rs) more = ends-two (ends-operands here rs _) (ends-expr here e _)

  pub ends-exprs : (here : Site) (es : Exprs Place) (more : List Occurrence) → Ends more (exprs_names here es more)
  ends-exprs here no_exprs more = ends-same _
  ends-exprs here (exprs e es) more = ends-two (ends-exprs here es _) (ends-expr here e _)

  pub ends-operands : (here : Site) (rs : Operands Place) (more : List Occurrence) → Ends more (operands_names here rs more)
  ends-operands here no_operands more = ends-same _
  ends-operands here (operand op e rs) more = ends-two (ends-operands here rs _) (ends-expr here e _)

pub ends-ref : (here : Site) (r : Ref Place) (more : List Occurrence) → Ends more (ref_names here r more)
ends-ref here (whole p n) more = ends-cons _ (ends-same _)
ends-ref here (part p n i) more = ends-cons _ (ends-expr here i _)

mutual
  pub ends-stmt : (here : Site) (s : Stmt Place) (more : List Occurrence) → Ends more (stmt_names here s more)
  ends-stmt here (assign r e) more = ends-two (ends-expr here e _) (ends-ref here r _)
  ends-stmt here (assign_entry r mon p entry q es) more = ends-two (ends-cons _ (ends-cons _ (ends-exprs here es _))) (ends-ref here r _)
  ends-stmt here (assign_empty r cond p) more = ends-two (ends-cons _ (ends-same _)) (ends-ref here r _)
  ends-stmt here (perform p n es) more = ends-cons _ (ends-exprs here es _)
  ends-stmt here (perform_entry p mon entry q es) more = ends-cons _ (ends-cons _ (ends-exprs here es _))
  ends-stmt here (when p e a) more = ends-two (ends-stmts here a _) (ends-expr here e _)
  ends-stmt here (when_else p e a b) more = ends-two (ends-two (ends-stmts here b _) (ends-stmts here a _)) (ends-expr here e _)
  ends-stmt here (loop p n q low high a) more = ends-cons _ (ends-two (ends-two (ends-stmts (inside (loop_name n q ∷ []) here) a _) (ends-constant here high _)) (ends-constant here low _))
  ends-stmt here (exit_when p e) more = ends-expr here e _
  ends-stmt here (get p dev q r) more = ends-cons _ (ends-ref here r _)
  ends-stmt here (put p dev q e) more = ends-cons _ (ends-expr here e _)
  ends-stmt here (wait p cond q limit number) more = ends-cons _ (ends-two (ends-constant here number _) (ends-constant here limit _))
  ends-stmt here (signal p cond q) more = ends-cons _ (ends-same _)
  ends-stmt here (broadcast p cond q) more = ends-cons _ (ends-same _)
  ends-stmt here (except p number) more = ends-constant here number _
  ends-stmt here (assert p e) more = ends-expr here e _

  pub ends-stmts : (here : Site) (ss : Stmts Place) (more : List Occurrence) → Ends more (stmts_names here ss more)
  ends-stmts here no_stmts more = ends-same _
  ends-stmts here (stmts s ss) more = ends-two (ends-stmts here ss _) (ends-stmt here s _)

pub ends-vars : (here : Site) (vs : List (Var Place)) (more : List Occurrence) → Ends more (vars_names here vs more)
ends-vars here [] more = ends-same _
ends-vars here (v ∷ vs) more = ends-two (ends-vars here vs _) (ends-kind here v.kind _)

pub ends-params : (here : Site) (vs : List (Param Place)) (more : List Occurrence) → Ends more (params_names here vs more)
ends-params here [] more = ends-same _
ends-params here (v ∷ vs) more = ends-two (ends-params here vs _) (ends-scalar here v.kind _)

pub ends-member : (here : Site) (m : Member Place) (more : List Occurrence) → Ends more (member_inner here m more)
ends-member here (variable_member v) more = ends-kind here v.kind _
ends-member here (condition_member n p) more = ends-same _

pub ends-members : (here : Site) (ms : List (Member Place)) (more : List Occurrence) → Ends more (members_names here ms more)
ends-members here [] more = ends-same _
ends-members here (m ∷ ms) more = ends-two (ends-members here ms _) (ends-member here m _)

pub ends-optional : {X : Type 0} (f : X → List Occurrence → List Occurrence) → ((x : X) (more : List Occurrence) → Ends more (f x more)) → (o : Option X) (more : List Occurrence) → Ends more (optional_names f o more)
ends-optional f h None more = ends-same _
ends-optional f h (Some x) more = h x _

pub ends-routine_inner : (here : Site) (r : Routine Place) (more : List Occurrence) → Ends more (routine_inner here r more)
ends-routine_inner here r more = ends-two (ends-two (ends-two (ends-two (ends-two (ends-cons _ (ends-same _)) (ends-optional (expr_names here) (ends-expr here) r.value _)) (ends-stmts here r.body _)) (ends-vars here r.vars _)) (ends-optional (scalar_names here) (ends-scalar here) r.result _)) (ends-params here r.params _)

pub ends-routine : (outer : Site) (r : Routine Place) (more : List Occurrence) → Ends more (routine_names outer r more)
ends-routine outer r more = ends-two (ends-routine_inner (inside (routine_scope r) outer) r _) (ends-declarations outer.means [] (routine_scope r) _)

pub ends-routines : (outer : Site) (rs : List (Routine Place)) (more : List Occurrence) → Ends more (routines_names outer rs more)
ends-routines outer [] more = ends-same _
ends-routines outer (r ∷ rs) more = ends-two (ends-routines outer rs _) (ends-routine outer r _)

pub ends-monitor : (outer : Site) (m : Monitor Place) (more : List Occurrence) → Ends more (monitor_names outer m more)
ends-monitor outer m more = ends-two (ends-two (ends-two (ends-cons _ (ends-same _)) (ends-routines (inside_monitor m.place (monitor_scope m) outer) m.entries _)) (ends-members (inside_monitor m.place (monitor_scope m) outer) m.members _)) (ends-declarations outer.means [] (monitor_scope m) _)

pub ends-activation : (here : Site) (a : Activation Place) (more : List Occurrence) → Ends more (activation_names here a more)
ends-activation here (periodic frame deadline start) more =
    ends-two (ends-two (ends-optional (constant_names here) (ends-constant here) start _) (ends-optional (constant_names here) (ends-constant here) deadline _)) (ends-constant here frame _)
ends-activation here (at_event n p frame deadline) more = ends-cons _ (ends-two (ends-optional (constant_names here) (ends-constant here) deadline _) (ends-constant here frame _))

pub ends-handler : (here : Site) (h : Handler Place) (more : List Occurrence) → Ends more (handler_names here h more)
ends-handler here h more = ends-two (ends-stmts here h.body _) (ends-constants here h.numbers _)

pub ends-process_inner : (here : Site) (p : Process Place) (more : List Occurrence) → Ends more (process_inner here p more)
ends-process_inner here p more = ends-two (ends-two (ends-two (ends-two (ends-two (ends-cons _ (ends-same _)) (ends-optional (handler_names here) (ends-handler here) p.handler _)) (ends-stmts here p.body _)) (ends-routines here p.routines _)) (ends-vars here p.vars _)) (ends-activation here p.activation _)

pub ends-process : (outer : Site) (p : Process Place) (more : List Occurrence) → Ends more (process_names outer p more)
ends-process outer p more = ends-two (ends-process_inner (inside (process_scope p) outer) p _) (ends-declarations outer.means [] (process_scope p) _)

pub ends-inner : (here : Site) (d : Decl Place) (more : List Occurrence) → Ends more (inner_names here d more)
ends-inner here (constant n p c) more = ends-constant here c _
ends-inner here (device n p o) more = ends-same _
ends-inner here (event n p) more = ends-same _
ends-inner here (routine r) more = ends-routine here r _
ends-inner here (monitor m) more = ends-monitor here m _
ends-inner here (process p) more = ends-process here p _

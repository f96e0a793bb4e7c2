-- A tree and the tree with other places are the same program.
use Rattle.std.proofs.Common.{◌≡◌, List, [], ◌∷◌, map, Option, Some, None, refl, ap}
use Rattle.syntax_tree.specs.Plain as plain_of
use Rattle.syntax_tree.specs.Placed.{Constant, literal_constant, named_constant, Scalar, int, boolean, subrange, Kind, scalar, array, Var, Param, Expr, literal, truth, variable, element, call, minus, negation, paren, row, Exprs, no_exprs, exprs, Operands, no_operands, operand, Ref, whole, part, Stmt, assign, assign_entry, assign_empty, perform, perform_entry, when, when_else, loop, exit_when, get, put, wait, signal, broadcast, except, assert, Stmts, no_stmts, stmts, Routine, Member, variable_member, condition_member, Activation, periodic, at_event, Handler, Decl, constant, device, event, routine, monitor, process, Prog, optional, plain_constant, plain_scalar, plain_kind, plain_var, plain_param, plain_expr, plain_exprs, plain_operands, plain_ref, plain_stmt, plain_stmts, plain_answers, plain_routine, plain_member, plain_activation, plain_handler, plain_decl, plain}
use Rattle.printed_law.specs.Moved.{moved_constant, moved_scalar, moved_kind, moved_var, moved_param, moved_expr, moved_exprs, moved_operands, moved_ref, moved_stmt, moved_stmts, moved_routine, moved_member, moved_activation, moved_handler, moved_decl, moved}

maps : {A B C : Type 0} (f : B → C) (h : A → C) (k : A → B) → ((x : A) → f (k x) ≡ h x) → (xs : List A) → map f (map k xs) ≡ map h xs
maps f h k same [] = refl
maps f h k same (x ∷ xs) = λ i. same x i ∷ maps f h k same xs i

options : {A B C : Type 0} (f : B → C) (h : A → C) (k : A → B) → ((x : A) → f (k x) ≡ h x) → (o : Option A) → optional f (optional k o) ≡ optional h o
options f h k same None = refl
options f h k same (Some x) = ap (λ y. Some y) (same x)

module _ {P Q : Type 0} (f : P → Q) where
  pub constants : (c : Constant P) → plain_constant (moved_constant f c) ≡ plain_constant c
  constants (literal_constant p s n q) = refl
  constants (named_constant p s n q) = refl

  scalars : (s : Scalar P) → plain_scalar (moved_scalar f s) ≡ plain_scalar s
  scalars int = refl
  scalars boolean = refl
  scalars (subrange low high) = λ i. plain_of.subrange (constants low i) (constants high i)

  kinds : (k : Kind P) → plain_kind (moved_kind f k) ≡ plain_kind k
  kinds (scalar s) = λ i. plain_of.scalar (scalars s i)
  kinds (array low high s) = λ i. plain_of.array (constants low i) (constants high i) (scalars s i)

  vars : (v : Var P) → plain_var (moved_var f v) ≡ plain_var v
  vars v = λ i. record { name = v.name; kind = kinds v.kind i }

  params : (v : Param P) → plain_param (moved_param f v) ≡ plain_param v
  params v = λ i. record { name = v.name; kind = scalars v.kind i }

  mutual
    of_expr : (e : Expr P) → plain_expr (moved_expr f e) ≡ plain_expr e
    of_expr (literal p n) = refl
    of_expr (truth p t) = refl
    of_expr (variable p n) = refl
    of_expr (element p n e) = λ i. plain_of.element n (of_expr e i)
    of_expr (call p n es) = λ i. plain_of.call n (of_exprs es i)
    of_expr (minus p e) = λ i. plain_of.minus (of_expr e i)
    of_expr (negation p e) = λ i. plain_of.negation (of_expr e i)
    of_expr (paren p e) = λ i. plain_of.paren (of_expr e i)
    of_expr (row e rs) = λ i. plain_of.row (of_expr e i) (of_operands rs i)

    of_exprs : (es : Exprs P) → plain_exprs (moved_exprs f es) ≡ plain_exprs es
    of_exprs no_exprs = refl
    of_exprs (exprs e es) = λ i. plain_of.exprs (of_expr e i) (of_exprs es i)

    of_operands : (rs : Operands P) → plain_operands (moved_operands f rs) ≡ plain_operands rs
    of_operands no_operands = refl
    of_operands (operand op e rs) = λ i. plain_of.operand op (of_expr e i) (of_operands rs i)

  of_ref : (r : Ref P) → plain_ref (moved_ref f r) ≡ plain_ref r
  of_ref (whole p n) = refl
  of_ref (part p n e) = λ i. plain_of.part n (of_expr e i)

  mutual
    of_stmt : (s : Stmt P) → plain_stmt (moved_stmt f s) ≡ plain_stmt s
    of_stmt (assign r e) = λ i. plain_of.assign (of_ref r i) (of_expr e i)
    of_stmt (assign_entry r m p e q es) = λ i. plain_of.assign_entry (of_ref r i) m e (of_exprs es i)
    of_stmt (assign_empty r c p) = λ i. plain_of.assign_empty (of_ref r i) c
    of_stmt (perform p n es) = λ i. plain_of.perform n (of_exprs es i)
    of_stmt (perform_entry p m e q es) = λ i. plain_of.perform_entry m e (of_exprs es i)
    of_stmt (when p e ss) = λ i. plain_of.when (of_expr e i) (of_stmts ss i)
    of_stmt (when_else p e ss ts) = λ i. plain_of.when_else (of_expr e i) (of_stmts ss i) (of_stmts ts i)
    of_stmt (loop p n q low high ss) = λ i. plain_of.loop n (constants low i) (constants high i) (of_stmts ss i)
    of_stmt (exit_when p e) = λ i. plain_of.exit_when (of_expr e i)
    of_stmt (get p d q r) = λ i. plain_of.get d (of_ref r i)
    of_stmt (put p d q e) = λ i. plain_of.put d (of_expr e i)
    of_stmt (wait p c q limit number) = λ i. plain_of.wait c (constants limit i) (constants number i)
    of_stmt (signal p c q) = refl
    of_stmt (broadcast p c q) = refl
    of_stmt (except p n) = λ i. plain_of.except (constants n i)
    of_stmt (assert p e) = λ i. plain_of.assert (of_expr e i)

    of_stmts : (ss : Stmts P) → plain_stmts (moved_stmts f ss) ≡ plain_stmts ss
    of_stmts no_stmts = refl
    of_stmts (stmts s ss) = λ i. plain_of.stmts (of_stmt s i) (of_stmts ss i)

  answers : (s : Option (Scalar P)) (e : Option (Expr P)) → plain_answers (optional (moved_scalar f) s) (optional (moved_expr f) e) ≡ plain_answers s e
  answers None None = refl
  answers None (Some e) = refl
  answers (Some s) None = refl
  answers (Some s) (Some e) = λ i. Some (record { kind = scalars s i; value = of_expr e i })

  routines : (r : Routine P) → plain_routine (moved_routine f r) ≡ plain_routine r
  routines r = λ i. record {
    name = r.name;
    params = maps plain_param plain_param (moved_param f) params r.params i;
    vars = maps plain_var plain_var (moved_var f) vars r.vars i;
    body = of_stmts r.body i;
    answers = answers r.result r.value i;
  }

  members : (m : Member P) → plain_member (moved_member f m) ≡ plain_member m
  members (variable_member v) = λ i. plain_of.variable_member (vars v i)
  members (condition_member n p) = refl

  activations : (a : Activation P) → plain_activation (moved_activation f a) ≡ plain_activation a
  activations (periodic frame deadline first) = λ i.
      plain_of.periodic (constants frame i) (options plain_constant plain_constant (moved_constant f) constants deadline i) (options plain_constant plain_constant (moved_constant f) constants first i)
  activations (at_event e p frame deadline) = λ i. plain_of.at_event e (constants frame i) (options plain_constant plain_constant (moved_constant f) constants deadline i)

  handlers : (h : Handler P) → plain_handler (moved_handler f h) ≡ plain_handler h
  handlers h = λ i. record { numbers = maps plain_constant plain_constant (moved_constant f) constants h.numbers i; body = of_stmts h.body i }

  decls : (d : Decl P) → plain_decl (moved_decl f d) ≡ plain_decl d
  decls (constant n p c) = λ i. plain_of.constant n (constants c i)
  decls (device n p o) = refl
  decls (event n p) = refl
  decls (routine r) = λ i. plain_of.routine (routines r i)
  decls (monitor m) = λ i. plain_of.monitor (record {
    name = m.name;
    members = maps plain_member plain_member (moved_member f) members m.members i;
    entries = maps plain_routine plain_routine (moved_routine f) routines m.entries i;
  })
  decls (process p) = λ i. plain_of.process (record {
    name = p.name;
    activation = activations p.activation i;
    vars = maps plain_var plain_var (moved_var f) vars p.vars i;
    routines = maps plain_routine plain_routine (moved_routine f) routines p.routines i;
    body = of_stmts p.body i;
    handler = options plain_handler plain_handler (moved_handler f) handlers p.handler i;
  })

  pub plain-moved : (g : Prog P) → plain (moved f g) ≡ plain g
  plain-moved g = λ i. record { name = g.name; decls = maps plain_decl plain_decl (moved_decl f) decls g.decls i }

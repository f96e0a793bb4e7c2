-- Where tokens have a tree, the tokens with other places have the tree with these places.
use Rattle.std.proofs.Common.{ℕ, zero, suc, true, false, List, [], ◌∷◌, map, Option, Some, None, ap}
use Rattle.syntax_tree.specs.Plain.{Op}
use Rattle.syntax_tree.specs.Placed.{Constant, literal_constant, named_constant, Scalar, int, boolean, subrange, Kind, scalar, array, Var, Param, Expr, literal, truth, variable, element, call, minus, negation, paren, row, Exprs, no_exprs, exprs, Operands, no_operands, operand, Ref, whole, part, Stmt, assign, assign_entry, assign_empty, perform, perform_entry, when, when_else, loop, exit_when, get, put, wait, signal, broadcast, except, assert, Stmts, no_stmts, stmts, RoutineKind, procedure, function, Routine, Member, variable_member, condition_member, Monitor, Activation, periodic, at_event, Handler, Process, Decl, constant, device, event, routine, monitor, process, Prog, optional}
use Rattle.syntax.specs.Words as w
use Rattle.syntax.specs.Words.{Word, named, number, Tok}
use Rattle.syntax.specs.ExprGrammar.{at, a, ◌▷◌, nothing, Unsigned, Each, Listed, SomeListed, IsRow, OfLevel, IsConstant, op_word, IsExpr, AreOperands, AreArgs, AreMoreArgs, InParens}
use Rattle.syntax.specs.StmtGrammar.{IsRef, IsStmt, AreStmts}
use Rattle.syntax.specs.Grammar.{MOST_LEVELS, IsScalar, IsKind, IsVar, IsParam, kind_word, IsResult, IsValue, IsRoutine, IsMember, IsEntry, IsMonitor, IsDeadline, IsFirst, IsActivation, IsHandler, IsProcess, way_word, IsDecl, IsProg}
use Rattle.printed_law.specs.Moved.{moved_constant, moved_scalar, moved_kind, moved_var, moved_param, moved_expr, moved_exprs, moved_operands, moved_ref, moved_stmt, moved_stmts, moved_routine, moved_member, moved_monitor, moved_activation, moved_handler, moved_process, moved_decl, moved}

-- what takes tokens from the front of a list
abbrev Takes : Type 0 → Type 1
Takes P = List (Tok P) → List (Tok P) → Type 0

abbrev pub moved_tok : {P Q : Type 0} → (P → Q) → Tok P → Tok Q
moved_tok f t = record { word = t.word; place = f t.place }

abbrev pub moved_toks : {P Q : Type 0} → (P → Q) → List (Tok P) → List (Tok Q)
moved_toks f ts = map (moved_tok f) ts

-- what takes some tokens, and what takes the same tokens with other places
pub record Carried {P Q : Type 0} (f : P → Q) (S : Takes P) (R : Takes Q) : Type 0 where
  pub carry : (ts us : List (Tok P)) → S ts us → R (moved_toks f ts) (moved_toks f us)

module _ {P Q : Type 0} (f : P → Q) where
  abbrev Carries : Takes P → Takes Q → Type 0
  Carries S R = Carried f S R

  at-carries : (word : Word) (p : P) → Carries (at word p) (at word (f p))
  at-carries word p = record { carry = λ ts us took. ap (moved_toks f) took }

  a-carries : (word : Word) → Carries (a word) (a word)
  a-carries word = record { carry = λ ts us took. (f took.0, ap (moved_toks f) took.1) }

  nothing-carries : Carries nothing nothing
  nothing-carries = record { carry = λ ts us took. ap (moved_toks f) took }

  unsigned-carries : (word : Word) (p q : P) → Carries (Unsigned word p q) (Unsigned word (f p) (f q))
  unsigned-carries word p q = record { carry = λ ts us took. (ap f took.0, ap (moved_toks f) took.1) }

  never-carries : {S : Takes P} {R : Takes Q} → ((ts us : List (Tok P)) → S ts us → ⊥) → Carries S R
  never-carries never = record { carry = λ ts us took. absurd (never ts us took) }

  infixr 5 ◌⋆◌
  ◌⋆◌ : {S T : Takes P} {R U : Takes Q} → Carries S R → Carries T U → Carries (S ▷ T) (R ▷ U)
  m ⋆ n = record { carry = λ ts us took. (moved_toks f took.0, m.carry ts took.0 took.1, n.carry took.0 us took.2) }

  each-carries : {X Y : Type 0} (S : X → Takes P) (R : Y → Takes Q) (k : X → Y) → ((x : X) → Carries (S x) (R (k x))) → (xs : List X) → Carries (Each S xs) (Each R (map k xs))
  each-carries S R k carries [] = nothing-carries
  each-carries S R k carries (x ∷ xs) = carries x ⋆ each-carries S R k carries xs

  comma-carries : {X Y : Type 0} (S : X → Takes P) (R : Y → Takes Q) (k : X → Y) → ((x : X) → Carries (S x) (R (k x))) → (x : X) → Carries (a w.COMMA ▷ S x) (a w.COMMA ▷ R (k x))
  comma-carries S R k carries x = a-carries w.COMMA ⋆ carries x

  listed-carries : {X Y : Type 0} (S : X → Takes P) (R : Y → Takes Q) (k : X → Y) → ((x : X) → Carries (S x) (R (k x))) → (xs : List X) → Carries (Listed S xs) (Listed R (map k xs))
  listed-carries S R k carries [] = never-carries (λ ts us took. took)
  listed-carries S R k carries (x ∷ xs) =
      carries x ⋆ each-carries (λ x. a w.COMMA ▷ S x) (λ y. a w.COMMA ▷ R y) k (comma-carries S R k carries) xs

  some-listed-carries : {X Y : Type 0} (S : X → Takes P) (R : Y → Takes Q) (k : X → Y) → ((x : X) → Carries (S x) (R (k x))) → (xs : List X) → Carries (SomeListed S xs) (SomeListed R (map k xs))
  some-listed-carries S R k carries [] = nothing-carries
  some-listed-carries S R k carries (x ∷ xs) =
      carries x ⋆ each-carries (λ x. a w.COMMA ▷ S x) (λ y. a w.COMMA ▷ R y) k (comma-carries S R k carries) xs

  -- a row of the same operators is a row
  still-row : (level : ℕ) (rs : Operands P) → IsRow level rs → IsRow level (moved_operands f rs)
  still-row level no_operands is = is
  still-row level (operand op e no_operands) is = is
  still-row level (operand op e (operand op_2 e_2 more)) is = is

  constant-carries : (c : Constant P) → Carries (IsConstant c) (IsConstant (moved_constant f c))
  constant-carries (literal_constant p true n q) = at-carries w.MINUS p ⋆ at-carries (number n) q
  constant-carries (literal_constant p false n q) = unsigned-carries (number n) p q
  constant-carries (named_constant p true n q) = at-carries w.MINUS p ⋆ at-carries (named n) q
  constant-carries (named_constant p false n q) = unsigned-carries (named n) p q

  op-carries : (level : ℕ) (op : Op) → Carries (OfLevel level op) (OfLevel level op)
  op-carries level op = record { carry = λ ts us took. (took.0, (a-carries (op_word op)).carry ts us took.1) }

  mutual
    expr-carries : (l depth : ℕ) (e : Expr P) → Carries (IsExpr l depth e) (IsExpr l depth (moved_expr f e))
    expr-carries l depth (literal p n) = at-carries (number n) p
    expr-carries l depth (truth p true) = at-carries w.TRUE p
    expr-carries l depth (truth p false) = at-carries w.FALSE p
    expr-carries l depth (variable p n) = at-carries (named n) p
    expr-carries l zero (element p n e) = never-carries (λ ts us took. took.2)
    expr-carries l (suc depth) (element p n e) = at-carries (named n) p ⋆ a-carries w.LEFT_BRACKET ⋆ expr-carries 5 depth e ⋆ a-carries w.RIGHT_BRACKET
    expr-carries l zero (call p n es) = never-carries (λ ts us took. took.2)
    expr-carries l (suc depth) (call p n es) = at-carries (named n) p ⋆ a-carries w.LEFT_PAREN ⋆ args-carries depth es ⋆ a-carries w.RIGHT_PAREN
    expr-carries l zero (minus p e) = never-carries (λ ts us took. took)
    expr-carries l (suc depth) (minus p e) = at-carries w.MINUS p ⋆ expr-carries 0 depth e
    expr-carries l zero (negation p e) = never-carries (λ ts us took. took)
    expr-carries l (suc depth) (negation p e) = at-carries w.NOT p ⋆ expr-carries 0 depth e
    expr-carries l zero (paren p e) = never-carries (λ ts us took. took)
    expr-carries l (suc depth) (paren p e) = at-carries w.LEFT_PAREN p ⋆ expr-carries 5 depth e ⋆ a-carries w.RIGHT_PAREN
    expr-carries l depth (row e rs) = record {
      carry = λ ts us took. (took.0, took.1, still-row (suc took.0) rs took.2, (expr-carries took.0 depth e ⋆ operands-carries took.0 depth rs).carry ts us took.3);
    }

    operands-carries : (l depth : ℕ) (rs : Operands P) → Carries (AreOperands l depth rs) (AreOperands l depth (moved_operands f rs))
    operands-carries l depth no_operands = nothing-carries
    operands-carries l depth (operand op e rs) = op-carries (suc l) op ⋆ expr-carries l depth e ⋆ operands-carries l depth rs

    args-carries : (depth : ℕ) (es : Exprs P) → Carries (AreArgs depth es) (AreArgs depth (moved_exprs f es))
    args-carries depth no_exprs = nothing-carries
    args-carries depth (exprs e es) = expr-carries 5 depth e ⋆ more-carries depth es

    more-carries : (depth : ℕ) (es : Exprs P) → Carries (AreMoreArgs depth es) (AreMoreArgs depth (moved_exprs f es))
    more-carries depth no_exprs = nothing-carries
    more-carries depth (exprs e es) = a-carries w.COMMA ⋆ expr-carries 5 depth e ⋆ more-carries depth es

  parens-carries : (depth : ℕ) (es : Exprs P) → Carries (InParens depth es) (InParens depth (moved_exprs f es))
  parens-carries zero es = never-carries (λ ts us took. took)
  parens-carries (suc depth) es = a-carries w.LEFT_PAREN ⋆ args-carries depth es ⋆ a-carries w.RIGHT_PAREN

  ref-carries : (depth : ℕ) (r : Ref P) → Carries (IsRef depth r) (IsRef depth (moved_ref f r))
  ref-carries depth (whole p n) = at-carries (named n) p
  ref-carries zero (part p n e) = never-carries (λ ts us took. took.2)
  ref-carries (suc depth) (part p n e) = at-carries (named n) p ⋆ a-carries w.LEFT_BRACKET ⋆ expr-carries 5 depth e ⋆ a-carries w.RIGHT_BRACKET

  mutual
    stmt-carries : (depth : ℕ) (s : Stmt P) → Carries (IsStmt depth s) (IsStmt depth (moved_stmt f s))
    stmt-carries depth (assign r e) = ref-carries depth r ⋆ a-carries w.ASSIGN ⋆ expr-carries 5 depth e
    stmt-carries depth (assign_entry r mon p entry q es) = ref-carries depth r ⋆ a-carries w.ASSIGN ⋆ at-carries (named mon) p ⋆ a-carries w.DOT ⋆ at-carries (named entry) q ⋆ parens-carries depth es
    stmt-carries depth (assign_empty r cond p) = ref-carries depth r ⋆ a-carries w.ASSIGN ⋆ a-carries w.EMPTY ⋆ at-carries (named cond) p
    stmt-carries depth (perform p n es) = at-carries (named n) p ⋆ parens-carries depth es
    stmt-carries depth (perform_entry p mon entry q es) = at-carries (named mon) p ⋆ a-carries w.DOT ⋆ at-carries (named entry) q ⋆ parens-carries depth es
    stmt-carries zero (when p e ss) = never-carries (λ ts us took. took)
    stmt-carries (suc depth) (when p e ss) = at-carries w.IF p ⋆ expr-carries 5 depth e ⋆ a-carries w.THEN ⋆ stmts-carries depth ss ⋆ a-carries w.END ⋆ a-carries w.IF
    stmt-carries zero (when_else p e ss others) = never-carries (λ ts us took. took)
    stmt-carries (suc depth) (when_else p e ss others) = at-carries w.IF p ⋆ expr-carries 5 depth e ⋆ a-carries w.THEN ⋆ stmts-carries depth ss ⋆ a-carries w.ELSE ⋆ stmts-carries depth others ⋆ a-carries w.END ⋆ a-carries w.IF
    stmt-carries zero (loop p n q low high ss) = never-carries (λ ts us took. took)
    stmt-carries (suc depth) (loop p n q low high ss) = at-carries w.FOR p ⋆ at-carries (named n) q ⋆ a-carries w.COLON ⋆ constant-carries low ⋆ a-carries w.RANGE ⋆ constant-carries high ⋆ a-carries w.DO ⋆ stmts-carries depth ss ⋆ a-carries w.END ⋆ a-carries w.FOR
    stmt-carries depth (exit_when p e) = at-carries w.EXIT p ⋆ a-carries w.WHEN ⋆ expr-carries 5 depth e
    stmt-carries depth (get p dev q r) = at-carries w.GET p ⋆ at-carries (named dev) q ⋆ ref-carries depth r
    stmt-carries depth (put p dev q e) = at-carries w.PUT p ⋆ at-carries (named dev) q ⋆ expr-carries 5 depth e
    stmt-carries depth (wait p cond q limit code) = at-carries w.WAIT p ⋆ at-carries (named cond) q ⋆ a-carries w.NO_LONGER_THAN ⋆ constant-carries limit ⋆ a-carries w.COLON ⋆ constant-carries code
    stmt-carries depth (signal p cond q) = at-carries w.SIGNAL p ⋆ at-carries (named cond) q
    stmt-carries depth (broadcast p cond q) = at-carries w.BROADCAST p ⋆ at-carries (named cond) q
    stmt-carries depth (except p code) = at-carries w.EXCEPT p ⋆ constant-carries code
    stmt-carries depth (assert p e) = at-carries w.ASSERT p ⋆ expr-carries 5 depth e

    stmts-carries : (depth : ℕ) (ss : Stmts P) → Carries (AreStmts depth ss) (AreStmts depth (moved_stmts f ss))
    stmts-carries depth no_stmts = nothing-carries
    stmts-carries depth (stmts s ss) = stmt-carries depth s ⋆ stmts-carries depth ss

  scalar-carries : (s : Scalar P) → Carries (IsScalar s) (IsScalar (moved_scalar f s))
  scalar-carries int = a-carries w.INT
  scalar-carries boolean = a-carries w.BOOLEAN
  scalar-carries (subrange low high) = constant-carries low ⋆ a-carries w.RANGE ⋆ constant-carries high

  kind-carries : (k : Kind P) → Carries (IsKind k) (IsKind (moved_kind f k))
  kind-carries (scalar s) = scalar-carries s
  kind-carries (array low high s) = a-carries w.ARRAY ⋆ constant-carries low ⋆ a-carries w.RANGE ⋆ constant-carries high ⋆ a-carries w.OF ⋆ scalar-carries s

  var-carries : (v : Var P) → Carries (IsVar v) (IsVar (moved_var f v))
  var-carries v = a-carries w.VAR ⋆ at-carries (named v.name) v.place ⋆ a-carries w.COLON ⋆ kind-carries v.kind

  param-carries : (v : Param P) → Carries (IsParam v) (IsParam (moved_param f v))
  param-carries v = at-carries (named v.name) v.place ⋆ a-carries w.COLON ⋆ scalar-carries v.kind

  result-carries : (k : RoutineKind) (s : Option (Scalar P)) → Carries (IsResult k s) (IsResult k (optional (moved_scalar f) s))
  result-carries procedure None = nothing-carries
  result-carries procedure (Some s) = never-carries (λ ts us took. took)
  result-carries function None = never-carries (λ ts us took. took)
  result-carries function (Some s) = a-carries w.RETURNS ⋆ scalar-carries s

  value-carries : (k : RoutineKind) (e : Option (Expr P)) → Carries (IsValue k e) (IsValue k (optional (moved_expr f) e))
  value-carries procedure None = nothing-carries
  value-carries procedure (Some e) = never-carries (λ ts us took. took)
  value-carries function None = never-carries (λ ts us took. took)
  value-carries function (Some e) = a-carries w.RETURN ⋆ expr-carries 5 MOST_LEVELS e

  routine-carries : (r : Routine P) → Carries (IsRoutine r) (IsRoutine (moved_routine f r))
  routine-carries r = a-carries (kind_word r.kind) ⋆ at-carries (named r.name) r.place ⋆ a-carries w.LEFT_PAREN ⋆ some-listed-carries IsParam IsParam (moved_param f) param-carries r.params ⋆ a-carries w.RIGHT_PAREN ⋆ result-carries r.kind r.result ⋆ each-carries IsVar IsVar (moved_var f) var-carries r.vars ⋆ a-carries w.BEGIN ⋆ stmts-carries MOST_LEVELS r.body ⋆ value-carries r.kind r.value ⋆ a-carries w.END ⋆ at-carries (named r.close) r.close_place

  member-carries : (m : Member P) → Carries (IsMember m) (IsMember (moved_member f m))
  member-carries (variable_member v) = var-carries v
  member-carries (condition_member n p) = a-carries w.CONDITION ⋆ at-carries (named n) p

  entry-carries : (r : Routine P) → Carries (IsEntry r) (IsEntry (moved_routine f r))
  entry-carries r = a-carries w.ENTRY ⋆ routine-carries r

  monitor-carries : (m : Monitor P) → Carries (IsMonitor m) (IsMonitor (moved_monitor f m))
  monitor-carries m = a-carries w.MONITOR ⋆ at-carries (named m.name) m.place ⋆ each-carries IsMember IsMember (moved_member f) member-carries m.members ⋆ each-carries IsEntry IsEntry (moved_routine f) entry-carries m.entries ⋆ a-carries w.END ⋆ at-carries (named m.close) m.close_place

  first-carries : (c : Option (Constant P)) → Carries (IsFirst c) (IsFirst (optional (moved_constant f) c))
  first-carries None = nothing-carries
  first-carries (Some c) = a-carries w.FIRST ⋆ a-carries w.ACTIVATION ⋆ a-carries w.AT_TIME ⋆ constant-carries c

  deadline-carries : (c : Option (Constant P)) → Carries (IsDeadline c) (IsDeadline (optional (moved_constant f) c))
  deadline-carries None = nothing-carries
  deadline-carries (Some c) = a-carries w.DEADLINE ⋆ constant-carries c

  activation-carries : (x : Activation P) → Carries (IsActivation x) (IsActivation (moved_activation f x))
  activation-carries (periodic frame deadline first) = a-carries w.PERIODIC ⋆ a-carries w.FRAME ⋆ constant-carries frame ⋆ deadline-carries deadline ⋆ first-carries first
  activation-carries (at_event e p frame deadline) = a-carries w.AT_EVENT ⋆ at-carries (named e) p ⋆ a-carries w.FRAME ⋆ constant-carries frame ⋆ deadline-carries deadline

  handler-carries : (h : Option (Handler P)) → Carries (IsHandler h) (IsHandler (optional (moved_handler f) h))
  handler-carries None = nothing-carries
  handler-carries (Some h) = a-carries w.HANDLER ⋆ a-carries w.LEFT_PAREN ⋆ listed-carries IsConstant IsConstant (moved_constant f) constant-carries h.numbers ⋆ a-carries w.RIGHT_PAREN ⋆ stmts-carries MOST_LEVELS h.body

  process-carries : (p : Process P) → Carries (IsProcess p) (IsProcess (moved_process f p))
  process-carries p = a-carries w.PROCESS ⋆ at-carries (named p.name) p.place ⋆ a-carries w.COLON ⋆ activation-carries p.activation ⋆ each-carries IsVar IsVar (moved_var f) var-carries p.vars ⋆ each-carries IsRoutine IsRoutine (moved_routine f) routine-carries p.routines ⋆ a-carries w.BEGIN ⋆ stmts-carries MOST_LEVELS p.body ⋆ handler-carries p.handler ⋆ a-carries w.END ⋆ at-carries (named p.close) p.close_place

  decl-carries : (x : Decl P) → Carries (IsDecl x) (IsDecl (moved_decl f x))
  decl-carries (constant n p c) = a-carries w.CONST ⋆ at-carries (named n) p ⋆ a-carries w.ASSIGN ⋆ constant-carries c
  decl-carries (device n p is_out) = a-carries w.DEVICE ⋆ at-carries (named n) p ⋆ a-carries w.COLON ⋆ a-carries (way_word is_out)
  decl-carries (event n p) = a-carries w.EVENT ⋆ at-carries (named n) p
  decl-carries (routine r) = routine-carries r
  decl-carries (monitor m) = monitor-carries m
  decl-carries (process p) = process-carries p

  pub program-carries : (g : Prog P) → Carries (IsProg g) (IsProg (moved f g))
  program-carries g = a-carries w.PROGRAM ⋆ at-carries (named g.name) g.place ⋆ each-carries IsDecl IsDecl (moved_decl f) decl-carries g.decls ⋆ a-carries w.END ⋆ at-carries (named g.close) g.close_place

-- The places of a program along its text: of its names, and of the values behind which loop variables and constants reach. They
-- are places of its tokens, in their order.
use Rattle.std.proofs.Common.{◌≡◌, ℕ, zero, suc, List, [], ◌∷◌, ◌++◌, map, Option, Some, None, true, false, refl, ap, sym, ◌∙◌, subst, inl, inr, ◌⊎◌, append_assoc, append-nil}
use Rattle.std.specs.Prelude.{flat_map}
use Rattle.std.specs.Option.{option_map_or}
use Rattle.syntax_tree.specs.Plain.{Op}
use Rattle.syntax_tree.specs.Placed.{Constant, literal_constant, named_constant, Scalar, int, boolean, subrange, Kind, scalar, array, Var, Param, Expr, literal, truth, variable, element, call, minus, negation, paren, row, Exprs, no_exprs, exprs, Operands, no_operands, operand, Ref, whole, part, Stmt, assign, assign_entry, assign_empty, perform, perform_entry, when, when_else, loop, exit_when, get, put, wait, signal, broadcast, except, assert, Stmts, no_stmts, stmts, RoutineKind, procedure, function, Routine, Member, variable_member, condition_member, Monitor, Activation, periodic, at_event, Handler, Process, Decl, constant, device, event, routine, monitor, process, Prog}
use Rattle.syntax_tree.specs.declared.place.Place.{Place}
use Rattle.syntax.specs.Words as w
use Rattle.syntax.specs.Words.{Word, named, number, Tok}
use Rattle.syntax.specs.ExprGrammar.{at, a, ◌▷◌, nothing, Deeper, Each, Listed, SomeListed, Unsigned, IsConstant, op_word, OfLevel, IsExpr, AreOperands, AreArgs, AreMoreArgs, InParens}
use Rattle.syntax.specs.StmtGrammar.{IsRef, IsStmt, AreStmts}
use Rattle.syntax.specs.Grammar.{MOST_LEVELS, IsScalar, IsKind, IsVar, IsParam, kind_word, IsResult, IsValue, IsRoutine, IsMember, IsMonitor, IsDeadline, IsFirst, IsActivation, IsHandler, IsProcess, way_word, IsDecl, IsProg}
use Rattle.message_names.specs.Mentions as told
use Rattle.message_names.specs.Mentions.{Mention, value_place}

abbrev pub places : List Mention → List Place
places ms = map (λ m. m.place) ms

-- ---- the places of each part

abbrev mutual
  pub stmt_spots : Stmt Place → List Place
  stmt_spots (assign r e) = places (told.stmt_mentions (assign r e))
  stmt_spots (assign_entry r mon p entry q es) = places (told.stmt_mentions (assign_entry r mon p entry q es))
  stmt_spots (assign_empty r cond p) = places (told.stmt_mentions (assign_empty r cond p))
  stmt_spots (perform p name es) = places (told.stmt_mentions (perform p name es))
  stmt_spots (perform_entry p mon entry q es) = places (told.stmt_mentions (perform_entry p mon entry q es))
  stmt_spots (when p e ss) = places (told.expr_mentions e) ++ stmts_spots ss
  stmt_spots (when_else p e ss others) = places (told.expr_mentions e) ++ (stmts_spots ss ++ stmts_spots others)
  stmt_spots (loop p name q low high ss) = q ∷ (places (told.constant_mentions low) ++ value_place high ∷ stmts_spots ss)
  stmt_spots (exit_when p e) = places (told.stmt_mentions (exit_when p e))
  stmt_spots (get p dev q r) = places (told.stmt_mentions (get p dev q r))
  stmt_spots (put p dev q e) = places (told.stmt_mentions (put p dev q e))
  stmt_spots (wait p cond q limit c) = places (told.stmt_mentions (wait p cond q limit c))
  stmt_spots (signal p cond q) = places (told.stmt_mentions (signal p cond q))
  stmt_spots (broadcast p cond q) = places (told.stmt_mentions (broadcast p cond q))
  stmt_spots (except p c) = places (told.stmt_mentions (except p c))
  stmt_spots (assert p e) = places (told.stmt_mentions (assert p e))

  pub stmts_spots : Stmts Place → List Place
  stmts_spots no_stmts = []
  stmts_spots (stmts s ss) = stmt_spots s ++ stmts_spots ss

abbrev pub var_spots : Var Place → List Place
var_spots v = v.place ∷ places (told.kind_mentions v.kind)

abbrev pub param_spots : Param Place → List Place
param_spots v = v.place ∷ places (told.scalar_mentions v.kind)

abbrev pub member_spots : Member Place → List Place
member_spots (variable_member v) = var_spots v
member_spots (condition_member name place) = place ∷ []

abbrev pub optional_places : {X : Type 0} → (X → List Mention) → Option X → List Place
optional_places mentions x = places (option_map_or mentions x [])

abbrev pub routine_spots : Routine Place → List Place
routine_spots r =
    r.place ∷ (flat_map param_spots r.params ++ (optional_places told.scalar_mentions r.result ++ (flat_map var_spots r.vars
    ++ (stmts_spots r.body ++ (optional_places told.expr_mentions r.value ++ r.close_place ∷ [])))))

abbrev pub monitor_spots : Monitor Place → List Place
monitor_spots m = m.place ∷ (flat_map member_spots m.members ++ (flat_map routine_spots m.entries ++ m.close_place ∷ []))

abbrev pub handler_spots : Option (Handler Place) → List Place
handler_spots None = []
handler_spots (Some h) = places (flat_map told.constant_mentions h.numbers) ++ stmts_spots h.body

abbrev pub process_spots : Process Place → List Place
process_spots p =
    p.place ∷ (places (told.activation_mentions p.activation) ++ (flat_map var_spots p.vars ++ (flat_map routine_spots p.routines
    ++ (stmts_spots p.body ++ (handler_spots p.handler ++ p.close_place ∷ [])))))

abbrev pub decl_spots : Decl Place → List Place
decl_spots (constant name place c) = place ∷ value_place c ∷ []
decl_spots (device name place is_out) = place ∷ []
decl_spots (event name place) = place ∷ []
decl_spots (routine r) = routine_spots r
decl_spots (monitor m) = monitor_spots m
decl_spots (process p) = process_spots p

abbrev pub spots : Prog Place → List Place
spots g = g.place ∷ (flat_map decl_spots g.decls ++ g.close_place ∷ [])

-- ---- places of tokens, some left out

abbrev pub Sub : List Place → List (Tok Place) → Type 0
Sub [] ts = Unit {0}
Sub (p ∷ ps) [] = ⊥
Sub (p ∷ ps) (t ∷ ts) = ((t.place ≡ p) × Sub ps ts) ⊎ Sub (p ∷ ps) ts

skip : (ps : List Place) (t : Tok Place) (ts : List (Tok Place)) → Sub ps ts → Sub ps (t ∷ ts)
skip [] t ts s = s
skip (p ∷ ps) t ts s = inr s

-- the part takes tokens, among them those at these places
record Takes (R : List (Tok Place) → List (Tok Place) → Type 0) (ps : List Place) : Type 0 where
  takes : (ts us : List (Tok Place)) (qs : List Place) → R ts us → Sub qs us → Sub (ps ++ qs) ts

infixr 5 ◌▸◌
◌▸◌ : {R S : List (Tok Place) → List (Tok Place) → Type 0} {ps qs : List Place} → Takes R ps → Takes S qs → Takes (R ▷ S) (ps ++ qs)
◌▸◌ {ps = ps} {qs = qs} k h = record {
  takes = λ ts us rest t s. subst (λ l. Sub l ts) (sym (append_assoc ps qs rest)) (k.takes ts t.0 (qs ++ rest) t.1 (h.takes t.0 us rest t.2 s));
}

-- behind the one part stand no names
infixr 5 ◌▹◌
◌▹◌ : {R S : List (Tok Place) → List (Tok Place) → Type 0} {ps : List Place} → Takes R ps → Takes S [] → Takes (R ▷ S) ps
◌▹◌ k h = record { takes = λ ts us rest t s. k.takes ts t.0 rest t.1 (h.takes t.0 us rest t.2 s) }

none : Takes nothing []
none = record { takes = λ ts us rest t s. subst (Sub rest) (sym t) s }

quiet_at : (word : Word) (p : Place) → Takes (at word p) []
quiet_at word p = record { takes = λ ts us rest t s. subst (Sub rest) (sym t) (skip rest (record { word = word; place = p }) us s) }

quiet : (word : Word) → Takes (a word) []
quiet word = record { takes = λ ts us rest t s. (quiet_at word t.0).takes ts us rest t.1 s }

stands : (word : Word) (p : Place) → Takes (at word p) (p ∷ [])
stands word p = record { takes = λ ts us rest t s. subst (Sub (p ∷ rest)) (sym t) (inl (refl, s)) }

deeper : {R : ℕ → List (Tok Place) → List (Tok Place) → Type 0} {ps : List Place} (depth : ℕ) → ((d : ℕ) → Takes (R d) ps) → Takes (Deeper depth R) ps
deeper zero k = record { takes = λ ts us rest t s. absurd t }
deeper (suc depth) k = k depth

-- the places are told in another way
retold : {R : List (Tok Place) → List (Tok Place) → Type 0} {ps qs : List Place} → ps ≡ qs → Takes R ps → Takes R qs
retold {R} e k = subst (Takes R) e k

pub map-append : (ms ns : List Mention) → places ms ++ places ns ≡ places (ms ++ ns)
map-append [] ns = refl
map-append (m ∷ ms) ns = ap (λ l. m.place ∷ l) (map-append ms ns)

-- two parts whose names are listed
pair : {R S : List (Tok Place) → List (Tok Place) → Type 0} (ms ns : List Mention) → Takes R (places ms) → Takes S (places ns) → Takes (R ▷ S) (places (ms ++ ns))
pair ms ns k h = retold (map-append ms ns) (k ▸ h)

-- ---- constants and expressions

unsigned : (word : Word) (p q : Place) → Takes (Unsigned word p q) (q ∷ [])
unsigned word p q = record { takes = λ ts us rest t s. subst (λ r. Sub (r ∷ rest) ts) (sym t.0) ((stands word p).takes ts us rest t.1 s) }

-- where its value stands
of-value : (c : Constant Place) → Takes (IsConstant c) (value_place c ∷ [])
of-value (literal_constant p true n q) = quiet_at w.MINUS p ▸ stands (number n) q
of-value (literal_constant p false n q) = unsigned (number n) p q
of-value (named_constant p true n q) = quiet_at w.MINUS p ▸ stands (named n) q
of-value (named_constant p false n q) = unsigned (named n) p q

passed : {R : List (Tok Place) → List (Tok Place) → Type 0} (p : Place) → Takes R (p ∷ []) → Takes R []
passed {R} p k = record { takes = λ ts us rest t s. behind p rest ts (k.takes ts us rest t s) }
  where
    behind : (p : Place) (rest : List Place) (ts : List (Tok Place)) → Sub (p ∷ rest) ts → Sub rest ts
    behind p rest [] s = absurd s
    behind p rest (t ∷ ts) (inl s) = skip rest t ts s.1
    behind p rest (t ∷ ts) (inr s) = skip rest t ts (behind p rest ts s)

of-constant : (c : Constant Place) → Takes (IsConstant c) (places (told.constant_mentions c))
of-constant (literal_constant p is_minus n q) = passed q (of-value (literal_constant p is_minus n q))
of-constant (named_constant p is_minus n q) = of-value (named_constant p is_minus n q)

of-op : (level : ℕ) (op : Op) → Takes (OfLevel level op) []
of-op level op = record { takes = λ ts us rest t s. (quiet (op_word op)).takes ts us rest t.1 s }

mutual
  of-expr : (level depth : ℕ) (e : Expr Place) → Takes (IsExpr level depth e) (places (told.expr_mentions e))
  of-expr level depth (literal p n) = quiet_at (number n) p
  of-expr level depth (truth p true) = quiet_at w.TRUE p
  of-expr level depth (truth p false) = quiet_at w.FALSE p
  of-expr level depth (variable p n) = stands (named n) p
  of-expr level depth (element p n i) = stands (named n) p ▸ deeper depth (λ d. quiet w.LEFT_BRACKET ▸ of-expr 5 d i ▹ quiet w.RIGHT_BRACKET)
  of-expr level depth (call p n es) = stands (named n) p ▸ deeper depth (λ d. quiet w.LEFT_PAREN ▸ of-args d es ▹ quiet w.RIGHT_PAREN)
  of-expr level depth (minus p e) = deeper depth (λ d. quiet_at w.MINUS p ▸ of-expr 0 d e)
  of-expr level depth (negation p e) = deeper depth (λ d. quiet_at w.NOT p ▸ of-expr 0 d e)
  of-expr level depth (paren p e) = deeper depth (λ d. quiet_at w.LEFT_PAREN p ▸ of-expr 5 d e ▹ quiet w.RIGHT_PAREN)
  of-expr level depth (row e rs) = record {
    takes = λ ts us rest t s. let both = pair (told.expr_mentions e) (told.operands_mentions rs) (of-expr t.0 depth e) (of-operands t.0 depth rs) in both.takes ts us rest t.3 s;
  }

  of-operands : (level depth : ℕ) (rs : Operands Place) → Takes (AreOperands level depth rs) (places (told.operands_mentions rs))
  of-operands level depth no_operands = none
  of-operands level depth (operand op e rs) = of-op (suc level) op ▸ pair (told.expr_mentions e) (told.operands_mentions rs) (of-expr level depth e) (of-operands level depth rs)

  of-args : (depth : ℕ) (es : Exprs Place) → Takes (AreArgs depth es) (places (told.exprs_mentions es))
  of-args depth no_exprs = none
  of-args depth (exprs e es) = pair (told.expr_mentions e) (told.exprs_mentions es) (of-expr 5 depth e) (of-more depth es)

  of-more : (depth : ℕ) (es : Exprs Place) → Takes (AreMoreArgs depth es) (places (told.exprs_mentions es))
  of-more depth no_exprs = none
  of-more depth (exprs e es) = quiet w.COMMA ▸ pair (told.expr_mentions e) (told.exprs_mentions es) (of-expr 5 depth e) (of-more depth es)

of-parens : (depth : ℕ) (es : Exprs Place) → Takes (InParens depth es) (places (told.exprs_mentions es))
of-parens depth es = deeper depth (λ d. quiet w.LEFT_PAREN ▸ of-args d es ▹ quiet w.RIGHT_PAREN)

of-ref : (depth : ℕ) (r : Ref Place) → Takes (IsRef depth r) (places (told.ref_mentions r))
of-ref depth (whole p n) = stands (named n) p
of-ref depth (part p n i) = stands (named n) p ▸ deeper depth (λ d. quiet w.LEFT_BRACKET ▸ of-expr 5 d i ▹ quiet w.RIGHT_BRACKET)

of-bounds : (mark : Word) (low high : Constant Place) → Takes (IsConstant low ▷ a mark ▷ IsConstant high) (places (told.bounds_mentions low high))
of-bounds mark low high = pair (told.constant_mentions low) (told.constant_mentions high) (of-constant low) (quiet mark ▸ of-constant high)

-- ---- statements

mutual
  of-stmt : (depth : ℕ) (s : Stmt Place) → Takes (IsStmt depth s) (stmt_spots s)
  of-stmt depth (assign r e) = pair (told.ref_mentions r) (told.expr_mentions e) (of-ref depth r) (quiet w.ASSIGN ▸ of-expr 5 depth e)
  of-stmt depth (assign_entry r mon p entry q es) = pair (told.ref_mentions r) (told.entry_mentions mon p entry q es) (of-ref depth r) (quiet w.ASSIGN ▸ stands (named mon) p ▸ quiet w.DOT ▸ stands (named entry) q ▸ of-parens depth es)
  of-stmt depth (assign_empty r cond p) = pair (told.ref_mentions r) (told.stmt_mentions (signal p cond p)) (of-ref depth r) (quiet w.ASSIGN ▸ quiet w.EMPTY ▸ stands (named cond) p)
  of-stmt depth (perform p n es) = stands (named n) p ▸ of-parens depth es
  of-stmt depth (perform_entry p mon entry q es) = stands (named mon) p ▸ quiet w.DOT ▸ stands (named entry) q ▸ of-parens depth es
  of-stmt depth (when p e ss) = deeper depth (λ d. quiet_at w.IF p ▸ of-expr 5 d e ▸ quiet w.THEN ▸ (of-stmts d ss ▹ (quiet w.END ▸ quiet w.IF)))
  of-stmt depth (when_else p e ss others) =
      deeper depth (λ d. quiet_at w.IF p ▸ of-expr 5 d e ▸ quiet w.THEN ▸ of-stmts d ss ▸ quiet w.ELSE ▸ (of-stmts d others ▹ (quiet w.END ▸ quiet w.IF)))
  of-stmt depth (loop p n q low high ss) =
      deeper depth (λ d. quiet_at w.FOR p ▸ stands (named n) q ▸ quiet w.COLON ▸ of-constant low ▸ quiet w.RANGE ▸ of-value high ▸ quiet w.DO ▸ (of-stmts d ss ▹ (quiet w.END ▸ quiet w.FOR)))
  of-stmt depth (exit_when p e) = quiet_at w.EXIT p ▸ quiet w.WHEN ▸ of-expr 5 depth e
  of-stmt depth (get p dev q r) = quiet_at w.GET p ▸ stands (named dev) q ▸ of-ref depth r
  of-stmt depth (put p dev q e) = quiet_at w.PUT p ▸ stands (named dev) q ▸ of-expr 5 depth e
  of-stmt depth (wait p cond q limit c) = quiet_at w.WAIT p ▸ stands (named cond) q ▸ quiet w.NO_LONGER_THAN ▸ of-bounds w.COLON limit c
  of-stmt depth (signal p cond q) = quiet_at w.SIGNAL p ▸ stands (named cond) q
  of-stmt depth (broadcast p cond q) = quiet_at w.BROADCAST p ▸ stands (named cond) q
  of-stmt depth (except p c) = quiet_at w.EXCEPT p ▸ of-constant c
  of-stmt depth (assert p e) = quiet_at w.ASSERT p ▸ of-expr 5 depth e

  of-stmts : (depth : ℕ) (ss : Stmts Place) → Takes (AreStmts depth ss) (stmts_spots ss)
  of-stmts depth no_stmts = none
  of-stmts depth (stmts s ss) = of-stmt depth s ▸ of-stmts depth ss

-- ---- declarations

of-scalar : (s : Scalar Place) → Takes (IsScalar s) (places (told.scalar_mentions s))
of-scalar int = quiet w.INT
of-scalar boolean = quiet w.BOOLEAN
of-scalar (subrange low high) = of-bounds w.RANGE low high

of-kind : (k : Kind Place) → Takes (IsKind k) (places (told.kind_mentions k))
of-kind (scalar s) = of-scalar s
of-kind (array low high s) = retold (ap (λ l. l) (at-last low high s)) (quiet w.ARRAY ▸ of-constant low ▸ quiet w.RANGE ▸ of-constant high ▸ quiet w.OF ▸ of-scalar s)
  where
    at-last : (low high : Constant Place) (s : Scalar Place)
        → places (told.constant_mentions low) ++ (places (told.constant_mentions high) ++ places (told.scalar_mentions s)) ≡ places (told.bounds_mentions low high ++ told.scalar_mentions s)
    at-last low high s =
        sym (append_assoc (places (told.constant_mentions low)) (places (told.constant_mentions high)) (places (told.scalar_mentions s)))
        ∙ ap (λ l. l ++ places (told.scalar_mentions s)) (map-append (told.constant_mentions low) (told.constant_mentions high))
        ∙ map-append (told.bounds_mentions low high) (told.scalar_mentions s)

of-var : (v : Var Place) → Takes (IsVar v) (var_spots v)
of-var v = quiet w.VAR ▸ stands (named v.name) v.place ▸ quiet w.COLON ▸ of-kind v.kind

of-param : (v : Param Place) → Takes (IsParam v) (param_spots v)
of-param v = stands (named v.name) v.place ▸ quiet w.COLON ▸ of-scalar v.kind

of-each : {X : Type 0} {R : X → List (Tok Place) → List (Tok Place) → Type 0} {f : X → List Place} → ((x : X) → Takes (R x) (f x)) → (xs : List X) → Takes (Each R xs) (flat_map f xs)
of-each one [] = none
of-each one (x ∷ xs) = one x ▸ of-each one xs

of-params : (vs : List (Param Place)) → Takes (SomeListed IsParam vs) (flat_map param_spots vs)
of-params [] = none
of-params (v ∷ vs) = of-param v ▸ of-each (λ x. quiet w.COMMA ▸ of-param x) vs

of-result : (k : RoutineKind) (s : Option (Scalar Place)) → Takes (IsResult k s) (optional_places told.scalar_mentions s)
of-result procedure None = none
of-result procedure (Some s) = record { takes = λ ts us rest t s. absurd t }
of-result function None = record { takes = λ ts us rest t s. absurd t }
of-result function (Some s) = quiet w.RETURNS ▸ of-scalar s

of-answer : (k : RoutineKind) (e : Option (Expr Place)) → Takes (IsValue k e) (optional_places told.expr_mentions e)
of-answer procedure None = none
of-answer procedure (Some e) = record { takes = λ ts us rest t s. absurd t }
of-answer function None = record { takes = λ ts us rest t s. absurd t }
of-answer function (Some e) = quiet w.RETURN ▸ of-expr 5 MOST_LEVELS e

of-routine : (r : Routine Place) → Takes (IsRoutine r) (routine_spots r)
of-routine r =
    quiet (kind_word r.kind) ▸ stands (named r.name) r.place ▸ quiet w.LEFT_PAREN ▸ of-params r.params ▸ quiet w.RIGHT_PAREN ▸ of-result r.kind r.result
    ▸ of-each of-var r.vars ▸ quiet w.BEGIN ▸ of-stmts MOST_LEVELS r.body ▸ of-answer r.kind r.value ▸ quiet w.END ▸ stands (named r.close) r.close_place

of-member : (m : Member Place) → Takes (IsMember m) (member_spots m)
of-member (variable_member v) = of-var v
of-member (condition_member n p) = quiet w.CONDITION ▸ stands (named n) p

of-monitor : (m : Monitor Place) → Takes (IsMonitor m) (monitor_spots m)
of-monitor m =
    quiet w.MONITOR ▸ stands (named m.name) m.place ▸ of-each of-member m.members ▸ of-each (λ r. quiet w.ENTRY ▸ of-routine r) m.entries ▸ quiet w.END ▸ stands (named m.close) m.close_place

of-deadline : (c : Option (Constant Place)) → Takes (IsDeadline c) (optional_places told.constant_mentions c)
of-deadline None = none
of-deadline (Some c) = quiet w.DEADLINE ▸ of-constant c

of-first : (c : Option (Constant Place)) → Takes (IsFirst c) (optional_places told.constant_mentions c)
of-first None = none
of-first (Some c) = quiet w.FIRST ▸ quiet w.ACTIVATION ▸ quiet w.AT_TIME ▸ of-constant c

of-activation : (x : Activation Place) → Takes (IsActivation x) (places (told.activation_mentions x))
of-activation (periodic frame deadline first) = quiet w.PERIODIC ▸ quiet w.FRAME ▸ pair (told.constant_mentions frame) (option_map_or told.constant_mentions deadline [] ++ option_map_or told.constant_mentions first []) (of-constant frame) (pair (option_map_or told.constant_mentions deadline []) (option_map_or told.constant_mentions first []) (of-deadline deadline) (of-first first))
of-activation (at_event e p frame deadline) = quiet w.AT_EVENT ▸ stands (named e) p ▸ quiet w.FRAME ▸ pair (told.constant_mentions frame) (option_map_or told.constant_mentions deadline []) (of-constant frame) (of-deadline deadline)

of-numbers : (cs : List (Constant Place)) → Takes (Each (λ c. a w.COMMA ▷ IsConstant c) cs) (places (flat_map told.constant_mentions cs))
of-numbers [] = none
of-numbers (c ∷ cs) = pair (told.constant_mentions c) (flat_map told.constant_mentions cs) (quiet w.COMMA ▸ of-constant c) (of-numbers cs)

of-listed : (cs : List (Constant Place)) → Takes (Listed IsConstant cs) (places (flat_map told.constant_mentions cs))
of-listed [] = record { takes = λ ts us rest t s. absurd t }
of-listed (c ∷ cs) = pair (told.constant_mentions c) (flat_map told.constant_mentions cs) (of-constant c) (of-numbers cs)

of-handler : (h : Option (Handler Place)) → Takes (IsHandler h) (handler_spots h)
of-handler None = none
of-handler (Some h) = quiet w.HANDLER ▸ quiet w.LEFT_PAREN ▸ of-listed h.numbers ▸ quiet w.RIGHT_PAREN ▸ of-stmts MOST_LEVELS h.body

of-process : (p : Process Place) → Takes (IsProcess p) (process_spots p)
of-process p =
    quiet w.PROCESS ▸ stands (named p.name) p.place ▸ quiet w.COLON ▸ of-activation p.activation ▸ of-each of-var p.vars ▸ of-each of-routine p.routines ▸ quiet w.BEGIN
    ▸ of-stmts MOST_LEVELS p.body ▸ of-handler p.handler ▸ quiet w.END ▸ stands (named p.close) p.close_place

of-decl : (d : Decl Place) → Takes (IsDecl d) (decl_spots d)
of-decl (constant n p c) = quiet w.CONST ▸ stands (named n) p ▸ quiet w.ASSIGN ▸ of-value c
of-decl (device n p is_out) = quiet w.DEVICE ▸ stands (named n) p ▹ (quiet w.COLON ▸ quiet (way_word is_out))
of-decl (event n p) = quiet w.EVENT ▸ stands (named n) p
of-decl (routine r) = of-routine r
of-decl (monitor m) = of-monitor m
of-decl (process p) = of-process p

of-program : (g : Prog Place) → Takes (IsProg g) (spots g)
of-program g = quiet w.PROGRAM ▸ stands (named g.name) g.place ▸ of-each of-decl g.decls ▸ quiet w.END ▸ stands (named g.close) g.close_place

-- the places of a program are those of some of its tokens, in their order
pub of-tokens : (g : Prog Place) (ts : List (Tok Place)) → IsProg g ts [] → Sub (spots g) ts
of-tokens g ts took = subst (λ l. Sub l ts) (append-nil (spots g)) ((of-program g).takes ts [] [] took tt)

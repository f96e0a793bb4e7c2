-- A tree and the tree without places have the same lines.
use Rattle.std.proofs.Common.{◌≡◌, true, false, List, [], ◌∷◌, ◌++◌, map, Option, Some, None, refl, ap}
use Rattle.syntax_tree.specs.Placed.{Constant, literal_constant, named_constant, Scalar, int, boolean, subrange, Kind, scalar, array, Var, Param, Expr, literal, truth, variable, element, call, minus, negation, paren, row, Exprs, no_exprs, exprs, Operands, no_operands, operand, Ref, whole, part, Stmt, assign, assign_entry, assign_empty, perform, perform_entry, when, when_else, loop, exit_when, get, put, wait, signal, broadcast, except, assert, Stmts, no_stmts, stmts, Routine, Member, variable_member, condition_member, Monitor, Activation, periodic, at_event, Handler, Process, Decl, constant, device, event, routine, monitor, process, Prog, optional}
use Rattle.syntax_tree.specs.Bare.{bare_constant, bare_scalar, bare_kind, bare_var, bare_param, bare_expr, bare_exprs, bare_operands, bare_ref, bare_stmt, bare_stmts, bare_routine, bare_member, bare_monitor, bare_activation, bare_handler, bare_process, bare_decl, bare}
use Rattle.syntax.specs.Words as w
use Rattle.syntax.specs.Words.{named}
use Rattle.syntax.specs.ExprGrammar.{op_word}
use Rattle.syntax.specs.Grammar.{kind_word}
use Rattle.syntax_printer.specs.Canonical as c
use Rattle.syntax_printer.specs.Canonical.{Line, canonical}

constant_bare : {P : Type 0} (x : Constant P) → c.constant_words (bare_constant x) ≡ c.constant_words x
constant_bare (literal_constant p true n q) = refl
constant_bare (literal_constant p false n q) = refl
constant_bare (named_constant p true n q) = refl
constant_bare (named_constant p false n q) = refl

scalar_bare : {P : Type 0} (x : Scalar P) → c.scalar_words (bare_scalar x) ≡ c.scalar_words x
scalar_bare int = refl
scalar_bare boolean = refl
scalar_bare (subrange low high) = λ i. constant_bare low i ++ w.RANGE ∷ constant_bare high i

kind_bare : {P : Type 0} (x : Kind P) → c.kind_line (bare_kind x) ≡ c.kind_line x
kind_bare (scalar s) = scalar_bare s
kind_bare (array low high s) = λ i. w.ARRAY ∷ (constant_bare low i ++ w.RANGE ∷ (constant_bare high i ++ w.OF ∷ scalar_bare s i))

mutual
  expr_bare : {P : Type 0} (x : Expr P) → c.expr_words (bare_expr x) ≡ c.expr_words x
  expr_bare (literal p n) = refl
  expr_bare (truth p true) = refl
  expr_bare (truth p false) = refl
  expr_bare (variable p n) = refl
  expr_bare (element p n e) = λ i. named n ∷ w.LEFT_BRACKET ∷ (expr_bare e i ++ w.RIGHT_BRACKET ∷ [])
  expr_bare (call p n es) = λ i. named n ∷ w.LEFT_PAREN ∷ (args_bare es i ++ w.RIGHT_PAREN ∷ [])
  expr_bare (minus p e) = λ i. w.MINUS ∷ expr_bare e i
  expr_bare (negation p e) = λ i. w.NOT ∷ expr_bare e i
  expr_bare (paren p e) = λ i. w.LEFT_PAREN ∷ (expr_bare e i ++ w.RIGHT_PAREN ∷ [])
  expr_bare (row e rs) = λ i. expr_bare e i ++ operands_bare rs i

  operands_bare : {P : Type 0} (x : Operands P) → c.operands_words (bare_operands x) ≡ c.operands_words x
  operands_bare no_operands = refl
  operands_bare (operand op e rs) = λ i. op_word op ∷ (expr_bare e i ++ operands_bare rs i)

  args_bare : {P : Type 0} (x : Exprs P) → c.args_words (bare_exprs x) ≡ c.args_words x
  args_bare no_exprs = refl
  args_bare (exprs e es) = λ i. expr_bare e i ++ more_args_bare es i

  more_args_bare : {P : Type 0} (x : Exprs P) → c.more_args_words (bare_exprs x) ≡ c.more_args_words x
  more_args_bare no_exprs = refl
  more_args_bare (exprs e es) = λ i. w.COMMA ∷ (expr_bare e i ++ more_args_bare es i)

in_parens_bare : {P : Type 0} (x : Exprs P) → c.in_parens (bare_exprs x) ≡ c.in_parens x
in_parens_bare es = λ i. w.LEFT_PAREN ∷ (args_bare es i ++ w.RIGHT_PAREN ∷ [])

ref_bare : {P : Type 0} (x : Ref P) → c.ref_words (bare_ref x) ≡ c.ref_words x
ref_bare (whole p n) = refl
ref_bare (part p n e) = λ i. named n ∷ w.LEFT_BRACKET ∷ (expr_bare e i ++ w.RIGHT_BRACKET ∷ [])

if_bare : {P : Type 0} (x : Expr P) → c.if_line (bare_expr x) ≡ c.if_line x
if_bare e = λ i. w.IF ∷ (expr_bare e i ++ w.THEN ∷ [])

mutual
  stmt_bare : {P : Type 0} (x : Stmt P) → c.stmt_lines (bare_stmt x) ≡ c.stmt_lines x
  stmt_bare (assign r e) = λ i. (ref_bare r i ++ w.ASSIGN ∷ expr_bare e i) ∷ []
  stmt_bare (assign_entry r mon p entry q es) = λ i. (ref_bare r i ++ w.ASSIGN ∷ named mon ∷ w.DOT ∷ named entry ∷ in_parens_bare es i) ∷ []
  stmt_bare (assign_empty r cond p) = λ i. (ref_bare r i ++ w.ASSIGN ∷ w.EMPTY ∷ named cond ∷ []) ∷ []
  stmt_bare (perform p n es) = λ i. (named n ∷ in_parens_bare es i) ∷ []
  stmt_bare (perform_entry p mon entry q es) = λ i. (named mon ∷ w.DOT ∷ named entry ∷ in_parens_bare es i) ∷ []
  stmt_bare (when p e ss) = λ i. if_bare e i ∷ (stmts_bare ss i ++ (w.END ∷ w.IF ∷ []) ∷ [])
  stmt_bare (when_else p e ss others) = λ i. if_bare e i ∷ (stmts_bare ss i ++ (w.ELSE ∷ []) ∷ (stmts_bare others i ++ (w.END ∷ w.IF ∷ []) ∷ []))
  stmt_bare (loop p n q low high ss) = λ i.
      (w.FOR ∷ named n ∷ w.COLON ∷ (constant_bare low i ++ w.RANGE ∷ (constant_bare high i ++ w.DO ∷ []))) ∷ (stmts_bare ss i ++ (w.END ∷ w.FOR ∷ []) ∷ [])
  stmt_bare (exit_when p e) = λ i. (w.EXIT ∷ w.WHEN ∷ expr_bare e i) ∷ []
  stmt_bare (get p dev q r) = λ i. (w.GET ∷ named dev ∷ ref_bare r i) ∷ []
  stmt_bare (put p dev q e) = λ i. (w.PUT ∷ named dev ∷ expr_bare e i) ∷ []
  stmt_bare (wait p cond q limit code) = λ i. (w.WAIT ∷ named cond ∷ w.NO_LONGER_THAN ∷ (constant_bare limit i ++ w.COLON ∷ constant_bare code i)) ∷ []
  stmt_bare (signal p cond q) = refl
  stmt_bare (broadcast p cond q) = refl
  stmt_bare (except p code) = λ i. (w.EXCEPT ∷ constant_bare code i) ∷ []
  stmt_bare (assert p e) = λ i. (w.ASSERT ∷ expr_bare e i) ∷ []

  stmts_bare : {P : Type 0} (x : Stmts P) → c.stmts_lines (bare_stmts x) ≡ c.stmts_lines x
  stmts_bare no_stmts = refl
  stmts_bare (stmts s ss) = λ i. stmt_bare s i ++ stmts_bare ss i

lines_bare : {A B : Type 0} (f : A → List Line) (g : B → List Line) (h : A → B) → ((x : A) → g (h x) ≡ f x) → (xs : List A) → c.lines_of g (map h xs) ≡ c.lines_of f xs
lines_bare f g h same [] = refl
lines_bare f g h same (x ∷ xs) = λ i. same x i ++ lines_bare f g h same xs i

more_bare : {A B : Type 0} (f : A → Line) (g : B → Line) (h : A → B) → ((x : A) → g (h x) ≡ f x) → (xs : List A) → c.more_listed g (map h xs) ≡ c.more_listed f xs
more_bare f g h same [] = refl
more_bare f g h same (x ∷ xs) = λ i. w.COMMA ∷ (same x i ++ more_bare f g h same xs i)

listed_bare : {A B : Type 0} (f : A → Line) (g : B → Line) (h : A → B) → ((x : A) → g (h x) ≡ f x) → (xs : List A) → c.listed g (map h xs) ≡ c.listed f xs
listed_bare f g h same [] = refl
listed_bare f g h same (x ∷ xs) = λ i. same x i ++ more_bare f g h same xs i

var_bare : {P : Type 0} (v : Var P) → c.var_lines (bare_var v) ≡ c.var_lines v
var_bare v = λ i. (w.VAR ∷ named v.name ∷ w.COLON ∷ kind_bare v.kind i) ∷ []

param_bare : {P : Type 0} (v : Param P) → c.param_words (bare_param v) ≡ c.param_words v
param_bare v = λ i. named v.name ∷ w.COLON ∷ scalar_bare v.kind i

result_bare : {P : Type 0} (x : Option (Scalar P)) → c.result_words (optional bare_scalar x) ≡ c.result_words x
result_bare None = refl
result_bare (Some s) = λ i. w.RETURNS ∷ scalar_bare s i

return_bare : {P : Type 0} (x : Option (Expr P)) → c.return_lines (optional bare_expr x) ≡ c.return_lines x
return_bare None = refl
return_bare (Some e) = λ i. (w.RETURN ∷ expr_bare e i) ∷ []

header_bare : {P : Type 0} (r : Routine P) → c.header (bare_routine r) ≡ c.header r
header_bare r = λ i.
    kind_word r.kind ∷ named r.name ∷ w.LEFT_PAREN ∷ (listed_bare c.param_words c.param_words bare_param param_bare r.params i ++ w.RIGHT_PAREN ∷ result_bare r.result i)

rest_bare : {P : Type 0} (r : Routine P) → c.rest_of_routine (bare_routine r) ≡ c.rest_of_routine r
rest_bare r = λ i.
    lines_bare c.var_lines c.var_lines bare_var var_bare r.vars i ++ (w.BEGIN ∷ []) ∷ (stmts_bare r.body i ++ (return_bare r.value i ++ c.end_line r.close ∷ []))

routine_bare : {P : Type 0} (r : Routine P) → c.routine_lines (bare_routine r) ≡ c.routine_lines r
routine_bare r = λ i. header_bare r i ∷ rest_bare r i

entry_bare : {P : Type 0} (r : Routine P) → c.entry_lines (bare_routine r) ≡ c.entry_lines r
entry_bare r = λ i. (w.ENTRY ∷ header_bare r i) ∷ rest_bare r i

member_bare : {P : Type 0} (x : Member P) → c.member_lines (bare_member x) ≡ c.member_lines x
member_bare (variable_member v) = var_bare v
member_bare (condition_member n p) = refl

monitor_bare : {P : Type 0} (m : Monitor P) → c.monitor_lines (bare_monitor m) ≡ c.monitor_lines m
monitor_bare m = λ i.
    (w.MONITOR ∷ named m.name ∷ []) ∷ (lines_bare c.member_lines c.member_lines bare_member member_bare m.members i
    ++ (lines_bare c.entry_lines c.entry_lines bare_routine entry_bare m.entries i ++ c.end_line m.close ∷ []))

first_bare : {P : Type 0} (x : Option (Constant P)) → c.first_words (optional bare_constant x) ≡ c.first_words x
first_bare None = refl
first_bare (Some x) = λ i. w.FIRST ∷ w.ACTIVATION ∷ w.AT_TIME ∷ constant_bare x i

deadline_bare : {P : Type 0} (x : Option (Constant P)) → c.deadline_words (optional bare_constant x) ≡ c.deadline_words x
deadline_bare None = refl
deadline_bare (Some x) = λ i. w.DEADLINE ∷ constant_bare x i

activation_bare : {P : Type 0} (x : Activation P) → c.activation_words (bare_activation x) ≡ c.activation_words x
activation_bare (periodic frame deadline first) = λ i. w.PERIODIC ∷ w.FRAME ∷ (constant_bare frame i ++ (deadline_bare deadline i ++ first_bare first i))
activation_bare (at_event e p frame deadline) = λ i. w.AT_EVENT ∷ named e ∷ w.FRAME ∷ (constant_bare frame i ++ deadline_bare deadline i)

handler_bare : {P : Type 0} (x : Option (Handler P)) → c.handler_lines (optional bare_handler x) ≡ c.handler_lines x
handler_bare None = refl
handler_bare (Some h) = λ i.
    (w.HANDLER ∷ w.LEFT_PAREN ∷ (listed_bare c.constant_words c.constant_words bare_constant constant_bare h.numbers i ++ w.RIGHT_PAREN ∷ [])) ∷ stmts_bare h.body i

process_bare : {P : Type 0} (p : Process P) → c.process_lines (bare_process p) ≡ c.process_lines p
process_bare p = λ i.
    (w.PROCESS ∷ named p.name ∷ w.COLON ∷ activation_bare p.activation i) ∷ (lines_bare c.var_lines c.var_lines bare_var var_bare p.vars i
    ++ (lines_bare c.routine_lines c.routine_lines bare_routine routine_bare p.routines i ++ (w.BEGIN ∷ []) ∷ (stmts_bare p.body i
    ++ (handler_bare p.handler i ++ c.end_line p.close ∷ []))))

decl_bare : {P : Type 0} (x : Decl P) → c.decl_lines (bare_decl x) ≡ c.decl_lines x
decl_bare (constant n p x) = λ i. (w.CONST ∷ named n ∷ w.ASSIGN ∷ constant_bare x i) ∷ []
decl_bare (device n p is_out) = refl
decl_bare (event n p) = refl
decl_bare (routine r) = routine_bare r
decl_bare (monitor m) = monitor_bare m
decl_bare (process p) = process_bare p

pub canonical_bare : {P : Type 0} (g : Prog P) → canonical (bare g) ≡ canonical g
canonical_bare g = ap c.text_of (λ i. (w.PROGRAM ∷ named g.name ∷ []) ∷ (lines_bare c.decl_lines c.decl_lines bare_decl decl_bare g.decls i ++ c.end_line g.close ∷ []))

-- The words of a tree: those of each part, and then others.
use Rattle.std.specs.Prelude.{true, false, List, [], ◌∷◌, Option, Some, None}
use Rattle.syntax_tree.specs.Placed.{Constant, literal_constant, named_constant, Scalar, int, boolean, subrange, Kind, scalar, array, Var, Param, Expr, literal, truth, variable, element, call, minus, negation, paren, row, Exprs, no_exprs, exprs, Operands, no_operands, operand, Ref, whole, part, Stmt, assign, assign_entry, assign_empty, perform, perform_entry, when, when_else, loop, exit_when, get, put, wait, signal, broadcast, except, assert, Stmts, no_stmts, stmts, Routine, Member, variable_member, condition_member, Monitor, Activation, periodic, at_event, Handler, Process, Decl, constant, device, event, routine, monitor, process, Prog}
use Rattle.syntax.specs.Words as w
use Rattle.syntax.specs.Words.{Word, named, number}
use Rattle.syntax.specs.ExprGrammar.{op_word}
use Rattle.syntax.specs.Grammar.{kind_word, way_word}

abbrev pub each_words : {A : Type 0} → (A → List Word → List Word) → List A → List Word → List Word
each_words f [] ws = ws
each_words f (x ∷ xs) ws = f x (each_words f xs ws)

-- each behind a comma but the first
abbrev pub listed_words : {A : Type 0} → (A → List Word → List Word) → List A → List Word → List Word
listed_words f [] ws = ws
listed_words f (x ∷ xs) ws = f x (each_words (λ y us. w.COMMA ∷ f y us) xs ws)

abbrev pub optional_words : {A : Type 0} → (A → List Word → List Word) → Option A → List Word → List Word
optional_words f None ws = ws
optional_words f (Some x) ws = f x ws

abbrev pub constant_words : {P : Type 0} → Constant P → List Word → List Word
constant_words (literal_constant p true n q) ws = w.MINUS ∷ number n ∷ ws
constant_words (literal_constant p false n q) ws = number n ∷ ws
constant_words (named_constant p true n q) ws = w.MINUS ∷ named n ∷ ws
constant_words (named_constant p false n q) ws = named n ∷ ws

abbrev mutual
  pub expr_words : {P : Type 0} → Expr P → List Word → List Word
  expr_words (literal p n) ws = number n ∷ ws
  expr_words (truth p true) ws = w.TRUE ∷ ws
  expr_words (truth p false) ws = w.FALSE ∷ ws
  expr_words (variable p n) ws = named n ∷ ws
  expr_words (element p n i) ws = named n ∷ w.LEFT_BRACKET ∷ expr_words i (w.RIGHT_BRACKET ∷ ws)
  expr_words (call p n es) ws = named n ∷ w.LEFT_PAREN ∷ args_words es (w.RIGHT_PAREN ∷ ws)
  expr_words (minus p e) ws = w.MINUS ∷ expr_words e ws
  expr_words (negation p e) ws = w.NOT ∷ expr_words e ws
  expr_words (paren p e) ws = w.LEFT_PAREN ∷ expr_words e (w.RIGHT_PAREN ∷ ws)
  expr_words (row e rs) ws = expr_words e (operands_words rs ws)

  pub operands_words : {P : Type 0} → Operands P → List Word → List Word
  operands_words no_operands ws = ws
  operands_words (operand op e rs) ws = op_word op ∷ expr_words e (operands_words rs ws)

  pub args_words : {P : Type 0} → Exprs P → List Word → List Word
  args_words no_exprs ws = ws
  args_words (exprs e es) ws = expr_words e (more_words es ws)

  pub more_words : {P : Type 0} → Exprs P → List Word → List Word
  more_words no_exprs ws = ws
  more_words (exprs e es) ws = w.COMMA ∷ expr_words e (more_words es ws)

abbrev pub parens_words : {P : Type 0} → Exprs P → List Word → List Word
parens_words es ws = w.LEFT_PAREN ∷ args_words es (w.RIGHT_PAREN ∷ ws)

abbrev pub ref_words : {P : Type 0} → Ref P → List Word → List Word
ref_words (whole p n) ws = named n ∷ ws
ref_words (part p n i) ws = named n ∷ w.LEFT_BRACKET ∷ expr_words i (w.RIGHT_BRACKET ∷ ws)

abbrev mutual
  pub stmt_words : {P : Type 0} → Stmt P → List Word → List Word
  stmt_words (assign r e) ws = ref_words r (w.ASSIGN ∷ expr_words e ws)
  stmt_words (assign_entry r mon p entry q es) ws = ref_words r (w.ASSIGN ∷ named mon ∷ w.DOT ∷ named entry ∷ parens_words es ws)
  stmt_words (assign_empty r cond p) ws = ref_words r (w.ASSIGN ∷ w.EMPTY ∷ named cond ∷ ws)
  stmt_words (perform p n es) ws = named n ∷ parens_words es ws
  stmt_words (perform_entry p mon entry q es) ws = named mon ∷ w.DOT ∷ named entry ∷ parens_words es ws
  stmt_words (when p e ss) ws = w.IF ∷ expr_words e (w.THEN ∷ stmts_words ss (w.END ∷ w.IF ∷ ws))
  stmt_words (when_else p e ss others) ws = w.IF ∷ expr_words e (w.THEN ∷ stmts_words ss (w.ELSE ∷ stmts_words others (w.END ∷ w.IF ∷ ws)))
  stmt_words (loop p n q low high ss) ws = w.FOR ∷ named n ∷ w.COLON ∷ constant_words low (w.RANGE ∷ constant_words high (w.DO ∷ stmts_words ss (w.END ∷ w.FOR ∷ ws)))
  stmt_words (exit_when p e) ws = w.EXIT ∷ w.WHEN ∷ expr_words e ws
  stmt_words (get p dev q r) ws = w.GET ∷ named dev ∷ ref_words r ws
  stmt_words (put p dev q e) ws = w.PUT ∷ named dev ∷ expr_words e ws
  stmt_words (wait p cond q limit c) ws = w.WAIT ∷ named cond ∷ w.NO_LONGER_THAN ∷ constant_words limit (w.COLON ∷ constant_words c ws)
  stmt_words (signal p cond q) ws = w.SIGNAL ∷ named cond ∷ ws
  stmt_words (broadcast p cond q) ws = w.BROADCAST ∷ named cond ∷ ws
  stmt_words (except p c) ws = w.EXCEPT ∷ constant_words c ws
  stmt_words (assert p e) ws = w.ASSERT ∷ expr_words e ws

  pub stmts_words : {P : Type 0} → Stmts P → List Word → List Word
  stmts_words no_stmts ws = ws
  stmts_words (stmts s ss) ws = stmt_words s (stmts_words ss ws)

abbrev pub scalar_words : {P : Type 0} → Scalar P → List Word → List Word
scalar_words int ws = w.INT ∷ ws
scalar_words boolean ws = w.BOOLEAN ∷ ws
scalar_words (subrange low high) ws = constant_words low (w.RANGE ∷ constant_words high ws)

abbrev pub kind_words : {P : Type 0} → Kind P → List Word → List Word
kind_words (scalar s) ws = scalar_words s ws
kind_words (array low high s) ws = w.ARRAY ∷ constant_words low (w.RANGE ∷ constant_words high (w.OF ∷ scalar_words s ws))

abbrev pub var_words : {P : Type 0} → Var P → List Word → List Word
var_words v ws = w.VAR ∷ named v.name ∷ w.COLON ∷ kind_words v.kind ws

abbrev pub param_words : {P : Type 0} → Param P → List Word → List Word
param_words v ws = named v.name ∷ w.COLON ∷ scalar_words v.kind ws

abbrev pub result_words : {P : Type 0} → Scalar P → List Word → List Word
result_words s ws = w.RETURNS ∷ scalar_words s ws

abbrev pub value_words : {P : Type 0} → Expr P → List Word → List Word
value_words e ws = w.RETURN ∷ expr_words e ws

abbrev pub routine_words : {P : Type 0} → Routine P → List Word → List Word
routine_words r ws =
    kind_word r.kind ∷ named r.name ∷ w.LEFT_PAREN ∷ listed_words param_words r.params (w.RIGHT_PAREN ∷ optional_words result_words r.result
    (each_words var_words r.vars (w.BEGIN ∷ stmts_words r.body (optional_words value_words r.value (w.END ∷ named r.close ∷ ws)))))

abbrev pub member_words : {P : Type 0} → Member P → List Word → List Word
member_words (variable_member v) ws = var_words v ws
member_words (condition_member n p) ws = w.CONDITION ∷ named n ∷ ws

abbrev pub entry_words : {P : Type 0} → Routine P → List Word → List Word
entry_words r ws = w.ENTRY ∷ routine_words r ws

abbrev pub monitor_words : {P : Type 0} → Monitor P → List Word → List Word
monitor_words m ws = w.MONITOR ∷ named m.name ∷ each_words member_words m.members (each_words entry_words m.entries (w.END ∷ named m.close ∷ ws))

abbrev pub deadline_words : {P : Type 0} → Constant P → List Word → List Word
deadline_words c ws = w.DEADLINE ∷ constant_words c ws

abbrev pub first_words : {P : Type 0} → Constant P → List Word → List Word
first_words c ws = w.FIRST ∷ w.ACTIVATION ∷ w.AT_TIME ∷ constant_words c ws

abbrev pub activation_words : {P : Type 0} → Activation P → List Word → List Word
activation_words (periodic frame deadline first) ws =
    w.PERIODIC ∷ w.FRAME ∷ constant_words frame (optional_words deadline_words deadline (optional_words first_words first ws))
activation_words (at_event e p frame deadline) ws =
    w.AT_EVENT ∷ named e ∷ w.FRAME ∷ constant_words frame (optional_words deadline_words deadline ws)

abbrev pub handler_words : {P : Type 0} → Handler P → List Word → List Word
handler_words h ws = w.HANDLER ∷ w.LEFT_PAREN ∷ listed_words constant_words h.numbers (w.RIGHT_PAREN ∷ stmts_words h.body ws)

abbrev pub process_words : {P : Type 0} → Process P → List Word → List Word
process_words p ws =
    w.PROCESS ∷ named p.name ∷ w.COLON ∷ activation_words p.activation (each_words var_words p.vars (each_words routine_words p.routines
    (w.BEGIN ∷ stmts_words p.body (optional_words handler_words p.handler (w.END ∷ named p.close ∷ ws)))))

abbrev pub decl_words : {P : Type 0} → Decl P → List Word → List Word
decl_words (constant n p c) ws = w.CONST ∷ named n ∷ w.ASSIGN ∷ constant_words c ws
decl_words (device n p is_out) ws = w.DEVICE ∷ named n ∷ w.COLON ∷ way_word is_out ∷ ws
decl_words (event n p) ws = w.EVENT ∷ named n ∷ ws
decl_words (routine r) ws = routine_words r ws
decl_words (monitor m) ws = monitor_words m ws
decl_words (process p) ws = process_words p ws

-- the words of a program
abbrev pub prog_words : {P : Type 0} → Prog P → List Word
prog_words g = w.PROGRAM ∷ named g.name ∷ each_words decl_words g.decls (w.END ∷ named g.close ∷ [])

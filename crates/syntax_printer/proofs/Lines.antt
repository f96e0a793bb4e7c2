-- The words of the canonical lines are those of the grammar.
use Rattle.std.proofs.Common.{◌≡◌, true, false, List, [], ◌∷◌, ◌++◌, Option, Some, None, refl, ap, ◌∙◌, append_assoc}
use Rattle.syntax_tree.specs.Placed.{Constant, literal_constant, named_constant, Scalar, int, boolean, subrange, Kind, scalar, array, Var, Param, Expr, literal, truth, variable, element, call, minus, negation, paren, row, Exprs, no_exprs, exprs, Operands, no_operands, operand, Ref, whole, part, Stmt, assign, assign_entry, assign_empty, perform, perform_entry, when, when_else, loop, exit_when, get, put, wait, signal, broadcast, except, assert, Stmts, no_stmts, stmts, Routine, Member, variable_member, condition_member, Monitor, Activation, periodic, at_event, Handler, Process, Decl, constant, device, event, routine, monitor, process, Prog}
use Rattle.syntax.specs.Words as w
use Rattle.syntax.specs.Words.{Word, named, number}
use Rattle.syntax.specs.ExprGrammar.{op_word}
use Rattle.syntax.specs.Grammar.{kind_word}
use Rattle.syntax_reading.specs.TreeWords as g
use Rattle.syntax_printer.specs.Canonical as c
use Rattle.syntax_printer.specs.Canonical.{Line}
use Rattle.syntax_printer.proofs.Spelled.{flat}

-- words in front of others
abbrev pub Says : Line → (List Word → List Word) → Type 0
Says line f = (ws : List Word) → line ++ ws ≡ f ws

-- lines in front of others
abbrev pub SaysLines : List Line → (List Word → List Word) → Type 0
SaysLines lines f = (rest : List Line) → flat (lines ++ rest) ≡ f (flat rest)

-- words, and then more
after : (ys : Line) (ws : List Word) (xs : Line) {left : List Word} (f : List Word → List Word) → Says xs f → ys ++ ws ≡ left → (xs ++ ys) ++ ws ≡ f left
after ys ws xs f says more = append_assoc xs ys ws ∙ says (ys ++ ws) ∙ ap f more

-- lines, and then more
after-lines : (ys rest : List Line) (xs : List Line) {left : List Word} (f : List Word → List Word) → SaysLines xs f → flat (ys ++ rest) ≡ left → flat ((xs ++ ys) ++ rest) ≡ f left
after-lines ys rest xs f says more = ap flat (append_assoc xs ys rest) ∙ says (ys ++ rest) ∙ ap f more

each-says : {A : Type 0} (lines : A → List Line) (f : A → List Word → List Word) → ((x : A) → SaysLines (lines x) (f x)) → (xs : List A) → SaysLines (c.lines_of lines xs) (g.each_words f xs)
each-says lines f says [] rest = refl
each-says lines f says (x ∷ xs) rest = after-lines _ _ (lines x) (f x) (says x) (each-says lines f says xs rest)

more-says : {A : Type 0} (words : A → Line) (f : A → List Word → List Word) → ((x : A) → Says (words x) (f x)) → (xs : List A)
    → Says (c.more_listed words xs) (g.each_words (λ y us. w.COMMA ∷ f y us) xs)
more-says words f says [] ws = refl
more-says words f says (x ∷ xs) ws = ap (λ v. w.COMMA ∷ v) (after _ _ (words x) (f x) (says x) (more-says words f says xs ws))

listed-says : {A : Type 0} (words : A → Line) (f : A → List Word → List Word) → ((x : A) → Says (words x) (f x)) → (xs : List A) → Says (c.listed words xs) (g.listed_words f xs)
listed-says words f says [] ws = refl
listed-says words f says (x ∷ xs) ws = after _ _ (words x) (f x) (says x) (more-says words f says xs ws)

module _ {P : Type 0} where
  constant-says : (x : Constant P) → Says (c.constant_words x) (g.constant_words x)
  constant-says (literal_constant p true n q) ws = refl
  constant-says (literal_constant p false n q) ws = refl
  constant-says (named_constant p true n q) ws = refl
  constant-says (named_constant p false n q) ws = refl

  scalar-says : (x : Scalar P) → Says (c.scalar_words x) (g.scalar_words x)
  scalar-says int ws = refl
  scalar-says boolean ws = refl
  scalar-says (subrange low high) ws = after _ _ (c.constant_words low) (g.constant_words low) (constant-says low) (ap (λ v. w.RANGE ∷ v) (constant-says high ws))

  kind-says : (x : Kind P) → Says (c.kind_line x) (g.kind_words x)
  kind-says (scalar s) ws = scalar-says s ws
  kind-says (array low high s) ws =
      ap (λ v. w.ARRAY ∷ v) (after _ _ (c.constant_words low) (g.constant_words low) (constant-says low)
      (ap (λ v. w.RANGE ∷ v) (after _ _ (c.constant_words high) (g.constant_words high) (constant-says high) (ap (λ v. w.OF ∷ v) (scalar-says s ws)))))

  mutual
    expr-says : (x : Expr P) → Says (c.expr_words x) (g.expr_words x)
    expr-says (literal p n) ws = refl
    expr-says (truth p true) ws = refl
    expr-says (truth p false) ws = refl
    expr-says (variable p n) ws = refl
    expr-says (element p n e) ws = ap (λ v. named n ∷ w.LEFT_BRACKET ∷ v) (after _ _ (c.expr_words e) (g.expr_words e) (expr-says e) refl)
    expr-says (call p n es) ws = ap (λ v. named n ∷ w.LEFT_PAREN ∷ v) (after _ _ (c.args_words es) (g.args_words es) (args-says es) refl)
    expr-says (minus p e) ws = ap (λ v. w.MINUS ∷ v) (expr-says e ws)
    expr-says (negation p e) ws = ap (λ v. w.NOT ∷ v) (expr-says e ws)
    expr-says (paren p e) ws = ap (λ v. w.LEFT_PAREN ∷ v) (after _ _ (c.expr_words e) (g.expr_words e) (expr-says e) refl)
    expr-says (row e rs) ws = after _ _ (c.expr_words e) (g.expr_words e) (expr-says e) (operands-says rs ws)

    operands-says : (x : Operands P) → Says (c.operands_words x) (g.operands_words x)
    operands-says no_operands ws = refl
    operands-says (operand op e rs) ws = ap (λ v. op_word op ∷ v) (after _ _ (c.expr_words e) (g.expr_words e) (expr-says e) (operands-says rs ws))

    args-says : (x : Exprs P) → Says (c.args_words x) (g.args_words x)
    args-says no_exprs ws = refl
    args-says (exprs e es) ws = after _ _ (c.expr_words e) (g.expr_words e) (expr-says e) (more-args-says es ws)

    more-args-says : (x : Exprs P) → Says (c.more_args_words x) (g.more_words x)
    more-args-says no_exprs ws = refl
    more-args-says (exprs e es) ws = ap (λ v. w.COMMA ∷ v) (after _ _ (c.expr_words e) (g.expr_words e) (expr-says e) (more-args-says es ws))

  parens-says : (x : Exprs P) → Says (c.in_parens x) (g.parens_words x)
  parens-says es ws = ap (λ v. w.LEFT_PAREN ∷ v) (after _ _ (c.args_words es) (g.args_words es) (args-says es) refl)

  ref-says : (x : Ref P) → Says (c.ref_words x) (g.ref_words x)
  ref-says (whole p n) ws = refl
  ref-says (part p n e) ws = ap (λ v. named n ∷ w.LEFT_BRACKET ∷ v) (after _ _ (c.expr_words e) (g.expr_words e) (expr-says e) refl)

  mutual
    stmt-says : (x : Stmt P) → SaysLines (c.stmt_lines x) (g.stmt_words x)
    stmt-says (assign r e) rest = after _ _ (c.ref_words r) (g.ref_words r) (ref-says r) (ap (λ v. w.ASSIGN ∷ v) (expr-says e (flat rest)))
    stmt-says (assign_entry r mon p entry q es) rest =
        after _ _ (c.ref_words r) (g.ref_words r) (ref-says r) (ap (λ v. w.ASSIGN ∷ named mon ∷ w.DOT ∷ named entry ∷ v) (parens-says es (flat rest)))
    stmt-says (assign_empty r cond p) rest = after _ _ (c.ref_words r) (g.ref_words r) (ref-says r) refl
    stmt-says (perform p n es) rest = ap (λ v. named n ∷ v) (parens-says es (flat rest))
    stmt-says (perform_entry p mon entry q es) rest = ap (λ v. named mon ∷ w.DOT ∷ named entry ∷ v) (parens-says es (flat rest))
    stmt-says (when p e ss) rest =
        ap (λ v. w.IF ∷ v) (after _ _ (c.expr_words e) (g.expr_words e) (expr-says e)
        (ap (λ v. w.THEN ∷ v) (after-lines _ _ (c.stmts_lines ss) (g.stmts_words ss) (stmts-says ss) refl)))
    stmt-says (when_else p e ss others) rest =
        ap (λ v. w.IF ∷ v) (after _ _ (c.expr_words e) (g.expr_words e) (expr-says e)
        (ap (λ v. w.THEN ∷ v) (after-lines _ _ (c.stmts_lines ss) (g.stmts_words ss) (stmts-says ss)
        (ap (λ v. w.ELSE ∷ v) (after-lines _ _ (c.stmts_lines others) (g.stmts_words others) (stmts-says others) refl)))))
    stmt-says (loop p n q low high ss) rest =
        ap (λ v. w.FOR ∷ named n ∷ w.COLON ∷ v) (after _ _ (c.constant_words low) (g.constant_words low) (constant-says low)
        (ap (λ v. w.RANGE ∷ v) (after _ _ (c.constant_words high) (g.constant_words high) (constant-says high)
        (ap (λ v. w.DO ∷ v) (after-lines _ _ (c.stmts_lines ss) (g.stmts_words ss) (stmts-says ss) refl)))))
    stmt-says (exit_when p e) rest = ap (λ v. w.EXIT ∷ w.WHEN ∷ v) (expr-says e (flat rest))
    stmt-says (get p dev q r) rest = ap (λ v. w.GET ∷ named dev ∷ v) (ref-says r (flat rest))
    stmt-says (put p dev q e) rest = ap (λ v. w.PUT ∷ named dev ∷ v) (expr-says e (flat rest))
    stmt-says (wait p cond q limit code) rest =
        ap (λ v. w.WAIT ∷ named cond ∷ w.NO_LONGER_THAN ∷ v) (after _ _ (c.constant_words limit) (g.constant_words limit) (constant-says limit)
        (ap (λ v. w.COLON ∷ v) (constant-says code (flat rest))))
    stmt-says (signal p cond q) rest = refl
    stmt-says (broadcast p cond q) rest = refl
    stmt-says (except p code) rest = ap (λ v. w.EXCEPT ∷ v) (constant-says code (flat rest))
    stmt-says (assert p e) rest = ap (λ v. w.ASSERT ∷ v) (expr-says e (flat rest))

    stmts-says : (x : Stmts P) → SaysLines (c.stmts_lines x) (g.stmts_words x)
    stmts-says no_stmts rest = refl
    stmts-says (stmts s ss) rest = after-lines _ _ (c.stmt_lines s) (g.stmt_words s) (stmt-says s) (stmts-says ss rest)

  var-says : (v : Var P) → SaysLines (c.var_lines v) (g.var_words v)
  var-says v rest = ap (λ u. w.VAR ∷ named v.name ∷ w.COLON ∷ u) (kind-says v.kind (flat rest))

  param-says : (v : Param P) → Says (c.param_words v) (g.param_words v)
  param-says v ws = ap (λ u. named v.name ∷ w.COLON ∷ u) (scalar-says v.kind ws)

  result-says : (x : Option (Scalar P)) → Says (c.result_words x) (g.optional_words g.result_words x)
  result-says None ws = refl
  result-says (Some s) ws = ap (λ v. w.RETURNS ∷ v) (scalar-says s ws)

  return-says : (x : Option (Expr P)) → SaysLines (c.return_lines x) (g.optional_words g.value_words x)
  return-says None rest = refl
  return-says (Some e) rest = ap (λ v. w.RETURN ∷ v) (expr-says e (flat rest))

  -- the words of a routine behind its header
  abbrev rest-words : Routine P → List Word → List Word
  rest-words r ws = g.each_words g.var_words r.vars (w.BEGIN ∷ g.stmts_words r.body (g.optional_words g.value_words r.value (w.END ∷ named r.close ∷ ws)))

  rest-says : (r : Routine P) → SaysLines (c.rest_of_routine r) (rest-words r)
  rest-says r rest =
      after-lines _ _ (c.lines_of c.var_lines r.vars) (g.each_words g.var_words r.vars) (each-says c.var_lines g.var_words var-says r.vars)
      (ap (λ v. w.BEGIN ∷ v) (after-lines _ _ (c.stmts_lines r.body) (g.stmts_words r.body) (stmts-says r.body)
      (after-lines _ _ (c.return_lines r.value) (g.optional_words g.value_words r.value) (return-says r.value) refl)))

  header-says : (r : Routine P) {ws left : List Word} → ws ≡ left
      → c.header r ++ ws ≡ kind_word r.kind ∷ named r.name ∷ w.LEFT_PAREN ∷ g.listed_words g.param_words r.params (w.RIGHT_PAREN ∷ g.optional_words g.result_words r.result left)
  header-says r {ws = ws} same =
      ap (λ v. kind_word r.kind ∷ named r.name ∷ w.LEFT_PAREN ∷ v) (after _ _ (c.listed c.param_words r.params) (g.listed_words g.param_words r.params) (listed-says c.param_words g.param_words param-says r.params)
      (ap (λ v. w.RIGHT_PAREN ∷ v) (result-says r.result ws ∙ ap (g.optional_words g.result_words r.result) same)))

  routine-says : (r : Routine P) → SaysLines (c.routine_lines r) (g.routine_words r)
  routine-says r rest = header-says r (rest-says r rest)

  entry-says : (r : Routine P) → SaysLines (c.entry_lines r) (g.entry_words r)
  entry-says r rest = ap (λ v. w.ENTRY ∷ v) (header-says r (rest-says r rest))

  member-says : (x : Member P) → SaysLines (c.member_lines x) (g.member_words x)
  member-says (variable_member v) rest = var-says v rest
  member-says (condition_member n p) rest = refl

  monitor-says : (m : Monitor P) → SaysLines (c.monitor_lines m) (g.monitor_words m)
  monitor-says m rest =
      ap (λ v. w.MONITOR ∷ named m.name ∷ v)
      (after-lines _ _ (c.lines_of c.member_lines m.members) (g.each_words g.member_words m.members) (each-says c.member_lines g.member_words member-says m.members)
      (after-lines _ _ (c.lines_of c.entry_lines m.entries) (g.each_words g.entry_words m.entries) (each-says c.entry_lines g.entry_words entry-says m.entries) refl))

  first-says : (x : Option (Constant P)) → Says (c.first_words x) (g.optional_words g.first_words x)
  first-says None ws = refl
  first-says (Some x) ws = ap (λ v. w.FIRST ∷ w.ACTIVATION ∷ w.AT_TIME ∷ v) (constant-says x ws)

  deadline-says : (x : Option (Constant P)) → Says (c.deadline_words x) (g.optional_words g.deadline_words x)
  deadline-says None ws = refl
  deadline-says (Some x) ws = ap (λ v. w.DEADLINE ∷ v) (constant-says x ws)

  activation-says : (x : Activation P) → Says (c.activation_words x) (g.activation_words x)
  activation-says (periodic frame deadline first) ws =
      ap (λ v. w.PERIODIC ∷ w.FRAME ∷ v) (after _ _ (c.constant_words frame) (g.constant_words frame) (constant-says frame)
      (after _ _ (c.deadline_words deadline) (g.optional_words g.deadline_words deadline) (deadline-says deadline) (first-says first ws)))
  activation-says (at_event e p frame deadline) ws =
      ap (λ v. w.AT_EVENT ∷ named e ∷ w.FRAME ∷ v) (after _ _ (c.constant_words frame) (g.constant_words frame) (constant-says frame) (deadline-says deadline ws))

  handler-says : (x : Option (Handler P)) → SaysLines (c.handler_lines x) (g.optional_words g.handler_words x)
  handler-says None rest = refl
  handler-says (Some h) rest =
      ap (λ v. w.HANDLER ∷ w.LEFT_PAREN ∷ v)
      (after _ _ (c.listed c.constant_words h.numbers) (g.listed_words g.constant_words h.numbers) (listed-says c.constant_words g.constant_words constant-says h.numbers)
      (ap (λ v. w.RIGHT_PAREN ∷ v) (stmts-says h.body rest)))

  process-says : (p : Process P) → SaysLines (c.process_lines p) (g.process_words p)
  process-says p rest =
      ap (λ v. w.PROCESS ∷ named p.name ∷ w.COLON ∷ v) (activation-says p.activation _ ∙ ap (g.activation_words p.activation)
      (after-lines _ _ (c.lines_of c.var_lines p.vars) (g.each_words g.var_words p.vars) (each-says c.var_lines g.var_words var-says p.vars)
      (after-lines _ _ (c.lines_of c.routine_lines p.routines) (g.each_words g.routine_words p.routines) (each-says c.routine_lines g.routine_words routine-says p.routines)
      (ap (λ v. w.BEGIN ∷ v) (after-lines _ _ (c.stmts_lines p.body) (g.stmts_words p.body) (stmts-says p.body)
      (after-lines _ _ (c.handler_lines p.handler) (g.optional_words g.handler_words p.handler) (handler-says p.handler) refl))))))

  decl-says : (x : Decl P) → SaysLines (c.decl_lines x) (g.decl_words x)
  decl-says (constant n p x) rest = ap (λ v. w.CONST ∷ named n ∷ w.ASSIGN ∷ v) (constant-says x (flat rest))
  decl-says (device n p is_out) rest = refl
  decl-says (event n p) rest = refl
  decl-says (routine r) rest = routine-says r rest
  decl-says (monitor m) rest = monitor-says m rest
  decl-says (process p) rest = process-says p rest

  pub program-says : (x : Prog P) → flat (c.program_lines x) ≡ g.prog_words x
  program-says x = ap (λ v. w.PROGRAM ∷ named x.name ∷ v) (each-says c.decl_lines g.decl_words decl-says x.decls (c.end_line x.close ∷ []))

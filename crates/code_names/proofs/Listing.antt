-- What the code lists is what the definition of numbers lists.
use Rattle.std.proofs.Common.{◌≡◌, ◌∙◌, sym, ap, refl, List, [], ◌∷◌, ◌++◌, Option, Some, None, append_assoc}
use Rattle.std.proofs.lemmas.List.{append-nil}
use Rattle.syntax_tree.specs.Plain.{Expr, literal, truth, variable, element, call, minus, negation, paren, row, Exprs, no_exprs, exprs, Operands, no_operands, operand, Ref, whole, part, Stmt, assign, assign_entry, assign_empty, perform, perform_entry, when, when_else, loop, exit_when, get, put, wait, signal, broadcast, except, assert, Stmts, no_stmts, stmts, Answers}
use Rattle.code_spec.specs.Numbering.{Called, calls_routine, calls_entry, expr_calls, exprs_calls, row_calls, ref_calls, stmt_calls, stmts_calls, answers_calls}
use Rattle.code_names.specs.Calls.{expr_called, exprs_called, row_called, ref_called, stmt_called, stmts_called, answers_called}

-- one part, and then the rest
both : (f g : List Called → List Called) (a b more : List Called) → ((l : List Called) → f l ≡ a ++ l) → g more ≡ b ++ more → f (g more) ≡ (a ++ b) ++ more
both f g a b more first second = first (g more) ∙ ap (λ l. a ++ l) second ∙ sym (append_assoc a b more)

mutual
  expr-calls : (e : Expr) (more : List Called) → expr_called e more ≡ expr_calls e ++ more
  expr-calls (literal n) more = refl
  expr-calls (truth b) more = refl
  expr-calls (variable x) more = refl
  expr-calls (element x e) more = expr-calls e more
  expr-calls (call f es) more = ap (λ l. calls_routine f ∷ l) (exprs-calls es more)
  expr-calls (minus e) more = expr-calls e more
  expr-calls (negation e) more = expr-calls e more
  expr-calls (paren e) more = expr-calls e more
  expr-calls (row e r) more = both (expr_called e) (row_called r) (expr_calls e) (row_calls r) more (λ l. expr-calls e l) (row-calls r more)

  exprs-calls : (es : Exprs) (more : List Called) → exprs_called es more ≡ exprs_calls es ++ more
  exprs-calls no_exprs more = refl
  exprs-calls (exprs e es) more = both (expr_called e) (exprs_called es) (expr_calls e) (exprs_calls es) more (λ l. expr-calls e l) (exprs-calls es more)

  row-calls : (r : Operands) (more : List Called) → row_called r more ≡ row_calls r ++ more
  row-calls no_operands more = refl
  row-calls (operand op e r) more = both (expr_called e) (row_called r) (expr_calls e) (row_calls r) more (λ l. expr-calls e l) (row-calls r more)

ref-calls : (r : Ref) (more : List Called) → ref_called r more ≡ ref_calls r ++ more
ref-calls (whole x) more = refl
ref-calls (part x e) more = expr-calls e more

mutual
  stmt-calls : (s : Stmt) (more : List Called) → stmt_called s more ≡ stmt_calls s ++ more
  stmt-calls (assign r e) more = both (ref_called r) (expr_called e) (ref_calls r) (expr_calls e) more (ref-calls r) (expr-calls e more)
  stmt-calls (assign_entry r m e es) more = both (ref_called r) (λ l. calls_entry m e ∷ exprs_called es l) (ref_calls r) (calls_entry m e ∷ exprs_calls es) more (ref-calls r) (ap (λ l. calls_entry m e ∷ l) (exprs-calls es more))
  stmt-calls (assign_empty r x) more = ref-calls r more
  stmt-calls (perform f es) more = ap (λ l. calls_routine f ∷ l) (exprs-calls es more)
  stmt-calls (perform_entry m e es) more = ap (λ l. calls_entry m e ∷ l) (exprs-calls es more)
  stmt-calls (when e a) more = both (expr_called e) (stmts_called a) (expr_calls e) (stmts_calls a) more (expr-calls e) (stmts-calls a more)
  stmt-calls (when_else e a b) more =
      both (expr_called e) (λ l. stmts_called a (stmts_called b l)) (expr_calls e) (stmts_calls a ++ stmts_calls b) more (expr-calls e)
      (both (stmts_called a) (stmts_called b) (stmts_calls a) (stmts_calls b) more (λ l. stmts-calls a l) (stmts-calls b more))
  stmt-calls (loop i low high ss) more = stmts-calls ss more
  stmt-calls (exit_when e) more = expr-calls e more
  stmt-calls (get d r) more = ref-calls r more
  stmt-calls (put d e) more = expr-calls e more
  stmt-calls (wait x limit number) more = refl
  stmt-calls (signal x) more = refl
  stmt-calls (broadcast x) more = refl
  stmt-calls (except n) more = refl
  stmt-calls (assert e) more = expr-calls e more

  stmts-calls : (ss : Stmts) (more : List Called) → stmts_called ss more ≡ stmts_calls ss ++ more
  stmts-calls no_stmts more = refl
  stmts-calls (stmts s ss) more = both (stmt_called s) (stmts_called ss) (stmt_calls s) (stmts_calls ss) more (λ l. stmt-calls s l) (stmts-calls ss more)

answers-calls : (a : Option Answers) (more : List Called) → answers_called a more ≡ answers_calls a ++ more
answers-calls None more = refl
answers-calls (Some a) more = expr-calls a.value more

pub all-calls : (ss : Stmts) (a : Option Answers) → stmts_called ss (answers_called a []) ≡ stmts_calls ss ++ answers_calls a
all-calls ss a = both (stmts_called ss) (answers_called a) (stmts_calls ss) (answers_calls a) [] (stmts-calls ss) (answers-calls a []) ∙ append-nil (stmts_calls ss ++ answers_calls a)

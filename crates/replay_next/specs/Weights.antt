-- How much is left to do, the routines that are called included: it falls with each step, so that
-- calls come to their end.
use Rattle.std.specs.Prelude.{ℕ, zero, suc, ◌+◌, ◌*◌, ◌-ℤ◌, List, [], ◌∷◌, Option, Some, None}
use Rattle.syntax_tree.specs.Placed.{placed, placed_process, plain, plain_process}
use Rattle.syntax_tree.specs.Plain.{Name, Expr, literal, truth, variable, element, call, minus, negation, paren, row, Exprs, no_exprs, exprs, Operands, no_operands, operand, Ref, whole, part, Stmt, assign, assign_entry, assign_empty, perform, perform_entry, when, when_else, loop, exit_when, get, put, assert, Stmts, no_stmts, stmts, Answers, Process, Program}
use Rattle.source_semantics.specs.Names.{constant_value}
use Rattle.source_semantics.specs.Store.{up_to}
use Rattle.source_semantics.specs.Run as run
use Rattle.replay_state.specs.View.{item_of}
use Rattle.replay_calls.specs.declared.lookup.EvalContext as code_scope
use Rattle.replay_calls.specs.Lookups.{found_of}
use Rattle.replay_next.specs.Remains.{expr_of, exprs_of, operands_of, stmts_of}
use Rattle.replay_next.specs.declared.remains.BoundSoFar as code_bound
use Rattle.replay_next.specs.declared.remains.BoundSoFar.TheVariants as bound_is
use Rattle.replay_next.specs.declared.remains.ExprItem as code_expr
use Rattle.replay_next.specs.declared.remains.ExprItem.TheVariants as expr_is
use Rattle.replay_next.specs.declared.remains.TargetUse as code_use
use Rattle.replay_next.specs.declared.remains.TargetUse.TheVariants as use_is
use Rattle.replay_next.specs.declared.remains.StmtItem as code_stmt
use Rattle.replay_next.specs.declared.remains.StmtItem.TheVariants as stmt_is
use Rattle.replay_next.specs.declared.remains.Remains as code_remains
use Rattle.replay_next.specs.declared.remains.Part as code_part
use Rattle.replay_next.specs.declared.remains.Part.TheVariants as part_is
use Rattle.replay_next.specs.declared.remains.Step as code_step
use Rattle.replay_next.specs.declared.remains.Step.TheVariants as step_is
use Rattle.replay_state.specs.declared.call.Item as code_item

-- the weight of each routine
pub record Costs : Type 0 where
  pub program : Program
  pub process : Process
  pub found : run.Found → ℕ

abbrev pub weight_of : (run.Found → ℕ) → Option run.Found → ℕ
weight_of w None = 0
weight_of w (Some f) = w f

abbrev pub named_weight : Costs → Name → ℕ
named_weight k f = weight_of k.found (run.routine_named k.program k.process f)

abbrev mutual
  pub expr_weight : Costs → Expr → ℕ
  expr_weight k (literal n) = 1
  expr_weight k (truth b) = 1
  expr_weight k (variable x) = 1
  expr_weight k (element x i) = suc (suc (expr_weight k i))
  expr_weight k (call f es) = suc (named_weight k f + exprs_weight k es)
  expr_weight k (minus e) = suc (suc (expr_weight k e))
  expr_weight k (negation e) = suc (suc (expr_weight k e))
  expr_weight k (paren e) = suc (expr_weight k e)
  expr_weight k (row e r) = suc (suc (expr_weight k e + operands_weight k r))

  pub operands_weight : Costs → Operands → ℕ
  operands_weight k no_operands = 0
  operands_weight k (operand op e r) = suc (suc (expr_weight k e + operands_weight k r))

  pub exprs_weight : Costs → Exprs → ℕ
  exprs_weight k no_exprs = 0
  exprs_weight k (exprs e es) = suc (suc (expr_weight k e + exprs_weight k es))

abbrev pub ref_weight : Costs → Ref → ℕ
ref_weight k (whole x) = 0
ref_weight k (part x i) = expr_weight k i

abbrev mutual
  pub stmt_weight : Costs → Stmt → ℕ
  stmt_weight k (assign r e) = suc (suc (suc (ref_weight k r + suc (expr_weight k e))))
  stmt_weight k (assign_entry r mon e es) = suc (suc (suc (ref_weight k r + exprs_weight k es)))
  stmt_weight k (assign_empty r x) = suc (suc (suc (ref_weight k r)))
  stmt_weight k (perform f es) = suc (suc (named_weight k f + exprs_weight k es))
  stmt_weight k (perform_entry mon e es) = suc (suc (exprs_weight k es))
  stmt_weight k (when e a) = suc (suc (suc (suc (expr_weight k e + stmts_weight k a))))
  stmt_weight k (when_else e a b) = suc (suc (suc (suc (expr_weight k e + (stmts_weight k a + stmts_weight k b)))))
  stmt_weight k (loop i low high ss) = suc (suc (suc (up_to (constant_value k.program high -ℤ constant_value k.program low) * suc (suc (suc (suc (stmts_weight k ss)))))))
  stmt_weight k (exit_when e) = suc (suc (suc (expr_weight k e)))
  stmt_weight k (get d r) = suc (suc (suc (ref_weight k r)))
  stmt_weight k (put d e) = suc (suc (suc (expr_weight k e)))
  stmt_weight k (assert e) = suc (suc (suc (expr_weight k e)))
  stmt_weight k _ = 2

  pub stmts_weight : Costs → Stmts → ℕ
  stmts_weight k no_stmts = 0
  stmts_weight k (stmts s ss) = suc (stmt_weight k s + stmts_weight k ss)

abbrev pub answers_weight : Costs → Option Answers → ℕ
answers_weight k None = 0
answers_weight k (Some a) = suc (suc (expr_weight k a.value))

abbrev pub item_weight : Costs → run.Item → ℕ
item_weight k (run.do_all ss) = suc (suc (stmts_weight k ss))
item_weight k (run.turns_left i v n ss) = suc (suc (n * suc (suc (suc (suc (stmts_weight k ss))))))
item_weight k (run.leave_with a mon) = suc (answers_weight k a)
item_weight k _ = 1

-- of a routine where calls are nested at most so deep
unfoldable pub found_weight : Program → Process → ℕ → run.Found → ℕ
found_weight g p zero f = 1
found_weight g p (suc d) f =
    let k : Costs = record { program = g; process = p; found = found_weight g p d } in
    suc (suc (suc (suc (stmts_weight k f.routine.body + answers_weight k f.routine.answers))))

-- ---- of what the code has, in a scope and so deep

abbrev pub costs : code_scope.EvalContext → ℕ → Costs
costs s d = record {
  program = plain (placed s.declarations.now);
  process = plain_process (placed_process s.process.now);
  found = found_weight (plain (placed s.declarations.now)) (plain_process (placed_process s.process.now)) d;
}

abbrev pub items_weight : Costs → List code_item.Item → ℕ
items_weight k [] = 0
items_weight k (i ∷ is) = item_weight k (item_of i) + items_weight k is

abbrev pub bound_weight : Costs → code_bound.BoundSoFar → ℕ
bound_weight k (bound_is.Raised n) = 0
bound_weight k (bound_is.Next e b) = suc (expr_weight k (expr_of e.now) + exprs_weight k (exprs_of b.args.now))
bound_weight k (bound_is.All own) = 0

abbrev pub expr_item_weight : Costs → code_expr.ExprItem → ℕ
expr_item_weight k (expr_is.Row r) = suc (operands_weight k (operands_of r.now))
expr_item_weight k (expr_is.Operand v op r) = suc (suc (operands_weight k (operands_of r.now)))
expr_item_weight k (expr_is.Argument f b) = suc (k.found (found_of f) + exprs_weight k (exprs_of b.args.now))
expr_item_weight k _ = 1

abbrev pub expr_items_weight : Costs → List code_expr.ExprItem → ℕ
expr_items_weight k [] = 0
expr_items_weight k (x ∷ xs) = expr_item_weight k x + expr_items_weight k xs

abbrev pub use_weight : Costs → code_use.TargetUse → ℕ
use_weight k (use_is.Value e) = suc (expr_weight k (expr_of e.now))
use_weight k (use_is.Entry mon e es) = exprs_weight k (exprs_of es.now)
use_weight k _ = 0

abbrev pub stmt_item_weight : Costs → code_stmt.StmtItem → ℕ
stmt_item_weight k (stmt_is.Index x then) = suc (use_weight k then)
stmt_item_weight k (stmt_is.Choice first second) = suc (suc (stmts_weight k (stmts_of first.now) + stmts_weight k (stmts_of second.now)))
stmt_item_weight k (stmt_is.Perform x) = suc (k.found (found_of x.value.found) + exprs_weight k (exprs_of x.value.binding.args.now))
stmt_item_weight k (stmt_is.Enter x mon t) = suc (exprs_weight k (exprs_of x.value.binding.args.now))
stmt_item_weight k _ = 1

abbrev pub remains_weight : Costs → code_remains.Remains → ℕ
remains_weight k x = expr_items_weight k x.exprs.items + stmt_item_weight k x.stmt

abbrev pub part_weight : Costs → code_part.Part → ℕ
part_weight k (part_is.Expr e) = expr_weight k (expr_of e.now)
part_weight k (part_is.Answer a) = 0
part_weight k (part_is.Call f) = k.found (found_of f.found)

abbrev pub step_weight : Costs → code_step.Step → ℕ
step_weight k (step_is.Part p x) = part_weight k p + remains_weight k x
step_weight k (step_is.CallsProcedure f) = k.found (found_of f.found)
step_weight k (step_is.Does ss) = suc (stmts_weight k (stmts_of ss.now))
step_weight k (step_is.Turns x t ss) = suc (t.left * suc (suc (suc (suc (stmts_weight k (stmts_of ss.now))))))
step_weight k (step_is.Came came) = 0

-- What remains of an expression and of its statement, once the value of a part has come.
use Rattle.std.specs.Prelude.{◌++◌, List, [], ◌∷◌, Option, Some, None, map, option_map, cond}
use Rattle.syntax_tree.specs.Plain.{Expr as PlainExpr, Exprs, Operands, Param as PlainParam, Stmts, no_stmts}
use Rattle.syntax_tree.specs.Placed.{op_of, placed_expr, placed_exprs, placed_operands, placed_param, placed_scalar, placed_stmts, plain_expr, plain_exprs, plain_operands, plain_param, plain_scalar, plain_stmts}
use Rattle.syntax_tree.specs.declared.expr.Op.{Op}
use Rattle.syntax_tree.specs.declared.expr.Expr.{Expr}
use Rattle.syntax_tree.specs.declared.decl.Param.{Param}
use Rattle.syntax_tree.specs.declared.decl.Scalar.{Scalar}
use Rattle.syntax_tree.specs.declared.stmt.Stmt.{Stmt}
use Rattle.base.specs.Words as w
use Rattle.source_semantics.specs.Names.{device_number}
use Rattle.source_semantics.specs.Operators.{operated}
use Rattle.source_semantics.specs.Store.{Vars, range_of, checked}
use Rattle.source_semantics.specs.Run as run
use Rattle.replay_state.specs.View.{target_of, vars_of}
use Rattle.replay_calls.specs.Lookups.{found_of}
use Rattle.replay_calls.specs.Seen.{answer_of}
use Rattle.replay_next.specs.Ran.{ran_of, receiving}
use Rattle.replay_next.specs.declared.remains.Binding as code_binding
use Rattle.replay_next.specs.declared.remains.BoundSoFar as code_bound
use Rattle.replay_next.specs.declared.remains.BoundSoFar.TheVariants as bound_is
use Rattle.replay_next.specs.declared.remains.ExprItem as code_expr
use Rattle.replay_next.specs.declared.remains.ExprItem.TheVariants as expr_is
use Rattle.replay_next.specs.declared.remains.TargetUse as code_use
use Rattle.replay_next.specs.declared.remains.TargetUse.TheVariants as use_is
use Rattle.replay_next.specs.declared.remains.StmtItem as code_stmt
use Rattle.replay_next.specs.declared.remains.StmtItem.TheVariants as stmt_is
use Rattle.replay_next.specs.declared.remains.Remains as code_remains
use Rattle.replay_next.specs.declared.remains.CalledRoutine as code_called
use Rattle.replay_next.specs.declared.remains.ItemResult as code_came
use Rattle.replay_next.specs.declared.remains.ItemResult.TheVariants as came_is
use Rattle.replay_next.specs.declared.remains.Part as code_part
use Rattle.replay_next.specs.declared.remains.Part.TheVariants as part_is
use Rattle.replay_next.specs.declared.remains.Step as code_step
use Rattle.replay_next.specs.declared.remains.Step.TheVariants as step_is

-- ---- texts as the code has them

abbrev pub expr_of : Expr → PlainExpr
expr_of e = plain_expr (placed_expr e)

abbrev pub exprs_of : List Expr → Exprs
exprs_of es = plain_exprs (placed_exprs es)

abbrev pub operands_of : List (Op × Expr) → Operands
operands_of r = plain_operands (placed_operands r)

abbrev pub param_of : Param → PlainParam
param_of p = plain_param (placed_param p)

abbrev pub params_of : List Param → List PlainParam
params_of ps = map plain_param (map placed_param ps)

abbrev pub stmts_of : List Stmt → Stmts
stmts_of ss = plain_stmts (placed_stmts ss)

-- no `else` is one with no statements
abbrev pub else_of : Option (List Stmt) → Stmts
else_of None = no_stmts
else_of (Some ss) = stmts_of ss

-- ---- arguments

-- these variables, and then those of the arguments that follow
abbrev pub in_front_all : Vars → run.Bound → run.Bound
in_front_all vs (run.bound ws) = run.bound (vs ++ ws)
in_front_all vs (run.unbound n) = run.unbound n

-- all arguments, where the one that is awaited has this answer
abbrev pub binding_bound : run.Site → run.Memory → code_binding.Binding → w.Answer → run.Bound
binding_bound c m b a =
    in_front_all (vars_of b.own.items) (run.with_argument c.program (param_of b.param.now) a (λ v. run.added c.program (param_of b.param.now) v (run.arguments c m (exprs_of b.args.now) (params_of b.params.now))))

abbrev pub bound_of : run.Site → run.Memory → code_bound.BoundSoFar → run.Bound
bound_of c m (bound_is.Raised n) = run.unbound n
bound_of c m (bound_is.Next e b) = binding_bound c m b (run.value c m (expr_of e.now))
bound_of c m (bound_is.All own) = run.bound (vars_of own.items)

-- ---- expressions

-- what an expression comes to, where the part that is awaited has this answer
abbrev pub expr_told : run.Site → run.Memory → code_expr.ExprItem → w.Answer → w.Answer
expr_told c m (expr_is.Element x) a = w.with_word a (λ v. run.read_element (run.slot_in c.home m x.now) v)
expr_told c m expr_is.Minus a = w.with_word a (λ v. w.negated v)
expr_told c m expr_is.Not a = w.with_word a (λ v. run.operated_not v)
expr_told c m (expr_is.Row r) a = w.with_word a (λ v. run.row_value c m (operands_of r.now) v)
expr_told c m (expr_is.Operand v op r) a = w.with_word a (λ u. w.with_word (operated (op_of op) v u) (λ x. run.row_value c m (operands_of r.now) x))
expr_told c m (expr_is.Argument f b) a = run.answer_of c m (found_of f) (binding_bound c m b a)

-- the same of all that remains, the outermost first
abbrev pub exprs_told : run.Site → run.Memory → List code_expr.ExprItem → w.Answer → w.Answer
exprs_told c m [] a = a
exprs_told c m (x ∷ xs) a = expr_told c m x (exprs_told c m xs a)

-- ---- statements

-- what is done to a variable that is found
abbrev pub used : run.Site → run.Memory → code_use.TargetUse → run.Target → run.Run
used c m (use_is.Value e) t = run.with_value (run.value c m (expr_of e.now)) m (λ v. run.store_to c.home m t v)
used c m (use_is.Entry mon e es) t = run.enter_named c m mon.now e.now (exprs_of es.now) (run.receive t ∷ [])
used c m (use_is.Empty x) t = run.stops (run.asks_empty (run.condition_here c x.now)) [] (run.receive t ∷ []) m
used c m (use_is.Device d) t = run.stops (run.gets (device_number c.program d.now)) [] (run.receive t ∷ []) m

abbrev pub in_type : run.Site → Scalar → w.Answer → w.Answer
in_type c kind a = w.with_word a (λ v. checked (range_of c.program (plain_scalar (placed_scalar kind))) v)

-- what a statement comes to, where its expression has this answer
abbrev pub stmt_told : run.Site → run.Memory → code_stmt.StmtItem → w.Answer → run.Run
stmt_told c m (stmt_is.Index x then) a = run.with_value a m (λ v. used c m then (record { name = x.now; index = Some v }))
stmt_told c m (stmt_is.Store t) a = run.with_value a m (λ v. run.store_to c.home m (target_of t) v)
stmt_told c m (stmt_is.Choice first second) a = run.with_value a m (λ v. cond (w.is_true v) (run.run_all c m (stmts_of first.now)) (run.run_all c m (stmts_of second.now)))
stmt_told c m stmt_is.Exit a = run.with_value a m (λ v. cond (w.is_true v) (run.exits m) (run.goes m))
stmt_told c m stmt_is.Assertion a = run.with_value a m (λ v. cond (w.is_true v) (run.goes m) (run.fails 4 m))
stmt_told c m (stmt_is.Put d) a = run.with_value a m (λ v. run.stops (run.puts (device_number c.program d.now) v) [] [] m)
stmt_told c m (stmt_is.Perform k) a = run.performed c m (found_of k.value.found) (binding_bound c m k.value.binding a)
stmt_told c m (stmt_is.Enter k mon t) a = run.entered c m (found_of k.value.found) mon (binding_bound c m k.value.binding a) (receiving (option_map target_of t))
stmt_told c m (stmt_is.Leave mon kind) a = run.with_value (in_type c kind.now a) m (λ v. run.stops (run.leaves mon) [] (run.give v ∷ []) m)
stmt_told c m (stmt_is.Result kind) a = run.with_value (in_type c kind.now a) m (λ v. run.answers v m)

abbrev pub told : run.Site → run.Memory → code_remains.Remains → w.Answer → run.Run
told c m x a = stmt_told c m x.stmt (exprs_told c m x.exprs.items a)

-- ---- calls

abbrev pub came_of : code_came.ItemResult → run.Memory → run.Run
came_of (came_is.Ran r) m = ran_of r m
came_of (came_is.Gives v) m = run.answers v m

abbrev pub part_of : run.Site → run.Memory → code_part.Part → w.Answer
part_of c m (part_is.Expr e) = run.value c m (expr_of e.now)
part_of c m (part_is.Answer a) = answer_of a
part_of c m (part_is.Call k) = c.calls.answer (found_of k.found) (run.with_own m (vars_of k.own.items))

-- what a statement comes to from this step on
abbrev pub step_of : run.Site → code_step.Step → run.Memory → run.Run
step_of c (step_is.Part p x) m = told c m x (part_of c m p)
step_of c (step_is.CallsProcedure k) m = run.within_caller (found_of k.found).home m.own (c.calls.run (found_of k.found) (run.with_own m (vars_of k.own.items)))
step_of c (step_is.Does ss) m = run.run_all c m (stmts_of ss.now)
step_of c (step_is.Turns x t ss) m = run.turns (λ k. run.run_all c k (stmts_of ss.now)) x.now (stmts_of ss.now) t.left t.value m
step_of c (step_is.Came came) m = came_of came m

abbrev pub procedure_step : code_called.CalledRoutine → code_step.Step
procedure_step k = step_is.CallsProcedure k

abbrev pub part_step : code_part.Part → code_remains.Remains → code_step.Step
part_step p x = step_is.Part p x

abbrev pub function_step : code_called.CalledRoutine → code_remains.Remains → code_step.Step
function_step k x = step_is.Part (part_is.Call k) x

abbrev pub came_step : code_came.ItemResult → code_step.Step
came_step came = step_is.Came came

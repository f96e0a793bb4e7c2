-- The cost of each form: ticks of execution, suspension and waits, exact. Costs add up along lists,
-- multiply by turns, and are the larger of two arms, each component by itself.
use Rattle.std.specs.Prelude.{ℕ, ◌+◌, ◌*◌, List, [], ◌∷◌, Option, Some, None, pos}
use Rattle.syntax_tree.specs.Plain.{Param, Expr, literal, truth, variable, element, call, minus, negation, paren, row, Exprs, no_exprs, exprs, Operands, no_operands, operand, Ref, whole, part, Stmt, assign, assign_entry, assign_empty, perform, perform_entry, when, when_else, loop, exit_when, get, put, wait, signal, broadcast, except, assert, Stmts, no_stmts, stmts, Answers, Routine, Handler, Process, Program}
use Rattle.base.specs.declared.capped.Cost.{Cost}
use Rattle.machine_isa.specs.Ticks.{ticks}
use Rattle.machine_isa.specs.declared.instr.Instr.TheVariants as i
use Rattle.source_semantics.specs.Names.{constant_value, count_value}
use Rattle.source_semantics.specs.Store.{Range, range_of}
use Rattle.code_spec.specs.Layout.{Owner, by_program, by_process, by_monitor}
use Rattle.code_spec.specs.Numbering.{Text, routine_in, entry_in}
use Rattle.code_spec.specs.Code.{load, load_at, store, store_at, op_instr, ref_name}
use Rattle.code_spec.specs.Emits.{turns_of}
use Rattle.valid_image.specs.Found.{amount, plus, greater, longer}
use Rattle.code_cost_spec.specs.Names.{View, Names, Calls, inside, range_seen}

-- so many ticks of execution
abbrev pub run : ℕ → Cost
run n = amount n 0 0

-- ---- single instructions

-- a constant, or a variable of one word
abbrev pub load_ticks : Option View → ℕ
load_ticks None = ticks (i.Push (pos 0))
load_ticks (Some v) = ticks (load v.area (pos 0))

abbrev pub element_ticks : Option View → ℕ
element_ticks None = 0
element_ticks (Some v) = ticks (load_at v.area (pos 0) (pos 0) (pos 0))

-- the check of a range, where there is one
abbrev pub check_ticks : Option Range → ℕ
check_ticks None = 0
check_ticks (Some r) = ticks (i.Range (pos 0) (pos 0))

abbrev pub store_ticks : Option View → Ref → ℕ
store_ticks None r = 0
store_ticks (Some v) (whole x) = ticks (store v.area (pos 0))
store_ticks (Some v) (part x e) = ticks (store_at v.area (pos 0) (pos 0) (pos 0))

-- the check and the store of what is assigned
abbrev pub put_ticks : Names → Ref → ℕ
put_ticks n r = check_ticks (range_seen (n.view (ref_name r))) + store_ticks (n.view (ref_name r)) r

-- ---- expressions

-- the arguments, CALL, and the whole routine
abbrev pub call_cost : Calls → Option Text → (List Param → Cost) → Cost
call_cost k None args = run 0
call_cost k (Some t) args = plus (args t.routine.params) (longer (ticks (i.Call (pos 0))) (k.cost t))

abbrev mutual
  pub expr_cost : Program → Names → Calls → Expr → Cost
  expr_cost g n k (literal v) = run (ticks (i.Push (pos 0)))
  expr_cost g n k (truth b) = run (ticks (i.Push (pos 0)))
  expr_cost g n k (variable x) = run (load_ticks (n.view x))
  expr_cost g n k (element x e) = plus (expr_cost g n k e) (run (element_ticks (n.view x)))
  expr_cost g n k (call f es) = call_cost k (routine_in g n.owner f) (λ ps. args_cost g n k es ps)
  expr_cost g n k (minus e) = plus (expr_cost g n k e) (run (ticks i.Neg))
  expr_cost g n k (negation e) = plus (expr_cost g n k e) (run (ticks i.Not))
  expr_cost g n k (paren e) = expr_cost g n k e
  expr_cost g n k (row e r) = plus (expr_cost g n k e) (row_cost g n k r)

  -- each operand and its operator
  pub row_cost : Program → Names → Calls → Operands → Cost
  row_cost g n k no_operands = run 0
  row_cost g n k (operand op e r) = plus (expr_cost g n k e) (plus (run (ticks (op_instr op))) (row_cost g n k r))

  -- each argument, and the check of its parameter's range
  pub args_cost : Program → Names → Calls → Exprs → List Param → Cost
  args_cost g n k no_exprs ps = run 0
  args_cost g n k (exprs e es) [] = run 0
  args_cost g n k (exprs e es) (p ∷ ps) = plus (expr_cost g n k e) (plus (run (check_ticks (range_of g p.kind))) (args_cost g n k es ps))

-- the index of what is assigned to, if any
abbrev pub index_cost : Program → Names → Calls → Ref → Cost
index_cost g n k (whole x) = run 0
index_cost g n k (part x e) = expr_cost g n k e

-- ---- statements

-- a loop: PUSH, STL and REPS once, then each turn its body, LDL, PUSH, ADD, STL and REP
abbrev pub loop_cost : (turns : ℕ) → Cost → Cost
loop_cost t c = amount (5 + t * (c.run + 10)) (t * c.susp) (t * c.waits)

abbrev mutual
  pub stmt_cost : Program → Names → Calls → Stmt → Cost
  stmt_cost g n k (assign r e) = plus (index_cost g n k r) (plus (expr_cost g n k e) (run (put_ticks n r)))
  stmt_cost g n k (assign_entry r m e es) = plus (index_cost g n k r) (plus (call_cost k (entry_in g m e) (λ ps. args_cost g n k es ps)) (run (put_ticks n r)))
  stmt_cost g n k (assign_empty r x) = plus (index_cost g n k r) (run (ticks (i.Empty (pos 0)) + store_ticks (n.view (ref_name r)) r))
  stmt_cost g n k (perform f es) = call_cost k (routine_in g n.owner f) (λ ps. args_cost g n k es ps)
  stmt_cost g n k (perform_entry m e es) = call_cost k (entry_in g m e) (λ ps. args_cost g n k es ps)
  stmt_cost g n k (when e a) = plus (expr_cost g n k e) (longer 2 (greater (longer 1 (stmts_cost g n k a)) (run 0)))
  stmt_cost g n k (when_else e a b) = plus (expr_cost g n k e) (longer 2 (greater (longer 1 (stmts_cost g n k a)) (stmts_cost g n k b)))
  stmt_cost g n k (loop x low high ss) = loop_cost (turns_of (constant_value g low) (constant_value g high)) (stmts_cost g (inside n x) k ss)
  stmt_cost g n k (exit_when e) = plus (expr_cost g n k e) (run (ticks (i.Exit (pos 0))))
  stmt_cost g n k (get d r) = plus (index_cost g n k r) (run (ticks (i.In (pos 0)) + put_ticks n r))
  stmt_cost g n k (put d e) = plus (expr_cost g n k e) (run (ticks (i.Out (pos 0))))
  stmt_cost g n k (wait x limit number) = amount 10 (count_value g limit) 1
  stmt_cost g n k (signal x) = run (ticks (i.Signal (pos 0)))
  stmt_cost g n k (broadcast x) = run (ticks (i.Broadcast (pos 0)))
  stmt_cost g n k (except e) = run (ticks (i.Raise (pos 0)))
  stmt_cost g n k (assert e) = longer 6 (expr_cost g n k e)

  pub stmts_cost : Program → Names → Calls → Stmts → Cost
  stmts_cost g n k no_stmts = run 0
  stmts_cost g n k (stmts s ss) = plus (stmt_cost g n k s) (stmts_cost g n k ss)

-- ---- routines and processes

-- the result of a function, and the check of its range
abbrev pub answers_cost : Program → Names → Calls → Option Answers → Cost
answers_cost g n k None = run 0
answers_cost g n k (Some a) = plus (expr_cost g n k a.value) (run (check_ticks (range_of g a.kind)))

-- body and result
abbrev pub inner_cost : Program → Names → Calls → Routine → Cost
inner_cost g n k r = plus (stmts_cost g n k r.body) (answers_cost g n k r.answers)

-- an entry is entered and left
abbrev pub monitor_ticks : Owner → ℕ
monitor_ticks by_program = 0
monitor_ticks (by_process k) = 0
monitor_ticks (by_monitor m) = ticks (i.Enter (pos 0)) + ticks (i.Leave (pos 0))

-- a routine with its RET or RETV
abbrev pub routine_cost : Program → Names → Calls → Text → Cost
routine_cost g n k t = longer (ticks i.Return + monitor_ticks t.owner) (inner_cost g n k t.routine)

-- how long an entry stays in its monitor: body and result, and LEAVE
abbrev pub stay_cost : Program → Names → Calls → Owner → Routine → ℕ
stay_cost g n k by_program r = 0
stay_cost g n k (by_process j) r = 0
stay_cost g n k (by_monitor m) r = (inner_cost g n k r).run + ticks (i.Leave (pos 0))

abbrev pub handler_cost : Program → Names → Calls → Option Handler → Cost
handler_cost g n k None = run 0
handler_cost g n k (Some h) = stmts_cost g n k h.body

-- a process: its body, its handler and END
abbrev pub process_cost : Program → Names → Calls → Process → Cost
process_cost g n k p = longer (ticks i.End) (plus (stmts_cost g n k p.body) (handler_cost g n k p.handler))

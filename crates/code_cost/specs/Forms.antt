-- The measure of each form, from the names in reach and from what is known of the routines that it
-- calls.
use Rattle.std.specs.Prelude.{ℕ, ◌+◌, List, [], Option, Some, None, slice_get}
use Rattle.syntax_tree.specs.Plain.{Expr, literal, truth, variable, element, call, minus, negation, paren, row, Exprs, no_exprs, exprs, Operands, no_operands, operand, Ref, whole, part, Stmt, assign, assign_entry, assign_empty, perform, perform_entry, when, when_else, loop, exit_when, get, put, wait, signal, broadcast, except, assert, Stmts, no_stmts, stmts, Program}
use Rattle.base.specs.Capped.{cap}
use Rattle.machine_isa.specs.Ticks.{ticks}
use Rattle.source_semantics.specs.Names.{as_count}
use Rattle.code_spec.specs.Layout.{Scope, spot_of}
use Rattle.code_spec.specs.Code.{op_instr, ref_name}
use Rattle.code_spec.specs.Numbering.{routine_in, entry_in}
use Rattle.valid_image.specs.Found.{amount}
use Rattle.codegen_spec.specs.declared.var_location.Area.TheVariants as area
use Rattle.codegen_spec.specs.declared.var_location.ValueRange.{ValueRange}
use Rattle.codegen_spec.specs.declared.var_location.VarLocation.{VarLocation}
use Rattle.codegen_spec.specs.declared.var_location.Callee.{Callee}
use Rattle.codegen_spec.specs.Made.{turns_between, worth}
use Rattle.codegen_spec.specs.Told.{told_spot, told_callee, within}
use Rattle.code_cost.specs.declared.measure.Measure.{Measure}
use Rattle.code_cost.specs.declared.measure.RoutineMeasure.{RoutineMeasure}
use Rattle.code_cost.specs.Sums.{nothing, of, joined, above, forked, looped, row_at, called, uncalled}

-- ---- single instructions

abbrev pub load_time : Option VarLocation → ℕ
load_time None = 1
load_time (Some s) = elim s.area [ area.Frame ↦ 2 | area.Process ↦ 2 | area.Monitor ↦ 3 ]

abbrev pub element_time : Option VarLocation → ℕ
element_time None = 0
element_time (Some s) = elim s.area [ area.Frame ↦ 4 | area.Process ↦ 4 | area.Monitor ↦ 5 ]

abbrev pub store_time : Option VarLocation → Ref → ℕ
store_time None r = 0
store_time (Some s) (whole x) = load_time (Some s)
store_time (Some s) (part x e) = element_time (Some s)

-- the check of a range, where there is one
abbrev pub check : Option ValueRange → Measure
check None = nothing
check (Some r) = of 3 0 1

abbrev pub check_of : Option VarLocation → Measure
check_of None = nothing
check_of (Some s) = check s.range

-- the check and the store of what is assigned
abbrev pub put_size : Option VarLocation → Ref → Measure
put_size s r = joined (check_of s) (of (store_time s r) 0 1)

-- ---- expressions

-- an argument above those before it; behind the last parameter it counts for nothing but its height
abbrev pub argument : ℕ → Measure → Option (Option ValueRange) → Measure → Measure
argument n sum None a = record sum { height = (joined sum (above n a)).height }
argument n sum (Some r) a = joined sum (joined (above n a) (check r))

abbrev pub call_size : List RoutineMeasure → Option Callee → (List (Option ValueRange) → Measure) → Measure
call_size rows None args = uncalled (args [])
call_size rows (Some k) args = called (row_at rows k.number) (args k.ranges)

abbrev mutual
  pub expr_size : Program → Scope → List RoutineMeasure → Expr → Measure
  expr_size g c rows (literal n) = of 1 1 1
  expr_size g c rows (truth b) = of 1 1 1
  expr_size g c rows (variable x) = of (load_time (told_spot (spot_of g c x))) 1 1
  expr_size g c rows (element x e) = joined (expr_size g c rows e) (of (element_time (told_spot (spot_of g c x))) 0 1)
  expr_size g c rows (call f es) = call_size rows (told_callee g (routine_in g c.owner f)) (λ rs. args_size g c rows 0 nothing es rs)
  expr_size g c rows (minus e) = joined (expr_size g c rows e) (of 2 0 1)
  expr_size g c rows (negation e) = joined (expr_size g c rows e) (of 1 0 1)
  expr_size g c rows (paren e) = expr_size g c rows e
  expr_size g c rows (row e r) = row_size g c rows (expr_size g c rows e) r

  -- behind a sum, each operand above the one before it, and its operator
  pub row_size : Program → Scope → List RoutineMeasure → Measure → Operands → Measure
  row_size g c rows sum no_operands = sum
  row_size g c rows sum (operand op e r) = row_size g c rows (joined sum (joined (above 1 (expr_size g c rows e)) (of (ticks (op_instr op)) 0 1))) r

  -- behind a sum, each argument from number n on, with the ranges of all parameters
  pub args_size : Program → Scope → List RoutineMeasure → ℕ → Measure → Exprs → List (Option ValueRange) → Measure
  args_size g c rows n sum no_exprs rs = sum
  args_size g c rows n sum (exprs e es) rs = args_size g c rows (n + 1) (argument n sum (slice_get rs n) (expr_size g c rows e)) es rs

abbrev pub index_size : Program → Scope → List RoutineMeasure → Ref → Measure
index_size g c rows (whole x) = nothing
index_size g c rows (part x e) = expr_size g c rows e

-- the index stays below what is assigned
abbrev pub index_words : Ref → ℕ
index_words (whole x) = 0
index_words (part x e) = 1

-- ---- statements

-- the index, what is assigned, and what stores it
abbrev pub assigned : Program → Scope → List RoutineMeasure → Ref → Measure → Measure → Measure
assigned g c rows r value store = joined (joined (index_size g c rows r) (above (index_words r) value)) store

abbrev mutual
  pub stmt_size : Program → Scope → List RoutineMeasure → Stmt → Measure
  stmt_size g c rows (assign r e) = assigned g c rows r (expr_size g c rows e) (put_size (told_spot (spot_of g c (ref_name r))) r)
  stmt_size g c rows (assign_entry r m e es) =
      assigned g c rows r (call_size rows (told_callee g (entry_in g m e)) (λ rs. args_size g c rows 0 nothing es rs)) (put_size (told_spot (spot_of g c (ref_name r))) r)
  stmt_size g c rows (assign_empty r x) = assigned g c rows r (of 3 1 1) (of (store_time (told_spot (spot_of g c (ref_name r))) r) 0 1)
  stmt_size g c rows (perform f es) = call_size rows (told_callee g (routine_in g c.owner f)) (λ rs. args_size g c rows 0 nothing es rs)
  stmt_size g c rows (perform_entry m e es) = call_size rows (told_callee g (entry_in g m e)) (λ rs. args_size g c rows 0 nothing es rs)
  stmt_size g c rows (when e a) = joined (expr_size g c rows e) (forked (stmts_size g c rows nothing a) nothing)
  stmt_size g c rows (when_else e a b) = joined (expr_size g c rows e) (forked (stmts_size g c rows nothing a) (stmts_size g c rows nothing b))
  stmt_size g c rows (loop x low high ss) = looped (turns_between g low high) (stmts_size g (within c x 0) rows nothing ss)
  stmt_size g c rows (exit_when e) = joined (expr_size g c rows e) (of 3 0 1)
  stmt_size g c rows (get d r) = assigned g c rows r (of 10 1 1) (put_size (told_spot (spot_of g c (ref_name r))) r)
  stmt_size g c rows (put d e) = joined (expr_size g c rows e) (of 10 0 1)
  stmt_size g c rows (wait x limit number) = record { cost = amount 10 (cap (as_count (worth g limit))) 1; height = 0; length = 2 }
  stmt_size g c rows (signal x) = of 5 0 1
  stmt_size g c rows (broadcast x) = of 5 0 1
  stmt_size g c rows (except n) = of 4 0 1
  stmt_size g c rows (assert e) = joined (expr_size g c rows e) (of 6 0 3)

  -- behind a sum
  pub stmts_size : Program → Scope → List RoutineMeasure → Measure → Stmts → Measure
  stmts_size g c rows sum no_stmts = sum
  stmts_size g c rows sum (stmts s ss) = stmts_size g c rows (joined sum (stmt_size g c rows s)) ss

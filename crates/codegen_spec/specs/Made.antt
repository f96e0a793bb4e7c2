-- What the generator makes of expressions and statements: code behind the code that it has, with
-- the segments beside it.
use Rattle.std.specs.Prelude.{ℕ, zero, suc, ◌+◌, ◌-◌, min, cond, List, [], ◌∷◌, ◌++◌, Option, Some, None, ℤ, pos, negsuc, length, slice_get, slice_set, int_lt}
use Rattle.syntax_tree.specs.Plain.{Constant, Expr, literal, truth, variable, element, call, minus, negation, paren, row, Exprs, no_exprs, exprs, Operands, no_operands, operand, Ref, whole, part, Stmt, assign, assign_entry, assign_empty, perform, perform_entry, when, when_else, loop, exit_when, get, put, wait, signal, broadcast, except, assert, Stmts, no_stmts, stmts, Program}
use Rattle.syntax_tree.specs.Placed.{placed_constant, plain_constant}
use Rattle.syntax_tree.specs.declared.expr.Constant.{Constant as Told}
use Rattle.base.specs.Words.{of_bool}
use Rattle.source_semantics.specs.Names.{constant_value, count_value, device_number}
use Rattle.machine_isa.specs.declared.instr.Instr.{Instr}
use Rattle.machine_isa.specs.declared.instr.Instr.TheVariants as i
use Rattle.image_format.specs.Kept.{fork, rep}
use Rattle.image_format.specs.declared.seg.Seg.{Seg}
use Rattle.image_format.specs.declared.seg.Seg.TheVariants as seg
use Rattle.code_spec.specs.Layout.{Scope, spot_of}
use Rattle.code_spec.specs.Code.{constant_named, op_instr}
use Rattle.code_spec.specs.Numbering.{entry_in, routine_in}
use Rattle.code_spec.specs.Emits.{condition_of, monitor_of, turns_of}
use Rattle.codegen_spec.specs.declared.var_location.Area.{Area}
use Rattle.codegen_spec.specs.declared.var_location.Area.TheVariants as area
use Rattle.codegen_spec.specs.declared.var_location.VarShape.{VarShape}
use Rattle.codegen_spec.specs.declared.var_location.VarShape.TheVariants as shape
use Rattle.codegen_spec.specs.declared.var_location.ValueRange.{ValueRange}
use Rattle.codegen_spec.specs.declared.var_location.VarLocation.{VarLocation}
use Rattle.codegen_spec.specs.declared.var_location.Callee.{Callee}
use Rattle.codegen_spec.specs.Told.{fit, told_callee, told_spot, value_told, within}

-- the code, the segments that are closed, where the line began that is still open, and the word of
-- the frame for the next loop
pub record Out : Type 0 where
  pub code : List Instr
  pub segs : List Seg
  pub from : ℕ
  pub word : ℕ

-- ---- instructions one by one

-- one more instruction of the open line
abbrev pub push : Out → Instr → Out
push o j = record { code = o.code ++ j ∷ []; segs = o.segs; from = o.from; word = o.word }

abbrev pub line_of : ℕ → List Seg
line_of zero = []
line_of (suc n) = seg.Line (min (suc n) 4294967295) ∷ []

-- the segments, with the open line
abbrev pub closed : Out → List Seg
closed o = o.segs ++ line_of (length o.code - o.from)

-- a segment behind the open line, where the code stands now
abbrev pub joined : Out → List Seg → Seg → Out
joined o before s = record { code = o.code; segs = before ++ s ∷ []; from = length o.code; word = o.word }

-- a part of the code with segments of its own begins
abbrev pub begun : Out → Out
begun o = record { code = o.code; segs = []; from = length o.code; word = o.word }

-- another instruction at an address
abbrev pub patched : Out → ℕ → Instr → Out
patched o p j = record { code = slice_set o.code p j; segs = o.segs; from = o.from; word = o.word }

abbrev pub counted : Out → Out
counted o = record { code = o.code; segs = o.segs; from = o.from; word = suc o.word }

-- ---- expressions

abbrev pub load_from : Area → ℤ → Instr
load_from area.Frame w = i.LoadLocal w
load_from area.Process w = i.LoadOwn w
load_from area.Monitor w = i.LoadMon w

abbrev pub load_told : Option VarLocation → ℤ → Instr
load_told (Some s) k = load_from s.area s.word
load_told None k = i.Push k

abbrev pub load_at_from : Area → ℤ → VarShape → Instr
load_at_from a w shape.Single = i.Push (pos 0)
load_at_from area.Frame w (shape.Array low len) = i.LoadLocalAt w low len
load_at_from area.Process w (shape.Array low len) = i.LoadOwnAt w low len
load_at_from area.Monitor w (shape.Array low len) = i.LoadMonAt w low len

abbrev pub load_at_told : Option VarLocation → Instr
load_at_told (Some s) = load_at_from s.area s.word s.shape
load_at_told None = i.Push (pos 0)

-- the check of a range, if there is one
abbrev pub range_out : Option ValueRange → Out → Out
range_out None o = o
range_out (Some r) o = push o (i.Range r.low r.high)

-- a call of a routine, whose arguments are made
abbrev pub called : ℕ → Out → Out
called n o = joined (push o (i.Call (fit (pos n)))) (closed o) (seg.Call (min n 65535))

-- a call of what it names, if it names a routine: its arguments, with the ranges of the parameters,
-- and the call
abbrev pub call_out : Option Callee → (List (Option ValueRange) → Out) → Out → Out
call_out None args o = o
call_out (Some k) args o = called k.number (args k.ranges)

abbrev mutual
  pub expr_out : Program → Scope → Expr → Out → Out
  expr_out g c (literal n) o = push o (i.Push (fit (pos n)))
  expr_out g c (truth b) o = push o (i.Push (of_bool b))
  expr_out g c (variable x) o = push o (load_told (told_spot (spot_of g c x)) (fit (value_told (constant_named g x))))
  expr_out g c (element x e) o = push (expr_out g c e o) (load_at_told (told_spot (spot_of g c x)))
  expr_out g c (call f es) o = call_out (told_callee g (routine_in g c.owner f)) (λ rs. args_out g c es rs o) o
  expr_out g c (minus e) o = push (expr_out g c e o) i.Neg
  expr_out g c (negation e) o = push (expr_out g c e o) i.Not
  expr_out g c (paren e) o = expr_out g c e o
  expr_out g c (row e r) o = row_out g c r (expr_out g c e o)

  pub row_out : Program → Scope → Operands → Out → Out
  row_out g c no_operands o = o
  row_out g c (operand op e r) o = row_out g c r (push (expr_out g c e o) (op_instr op))

  -- each argument, and the check of its parameter's range
  pub args_out : Program → Scope → Exprs → List (Option ValueRange) → Out → Out
  args_out g c no_exprs rs o = o
  args_out g c (exprs e es) [] o = o
  args_out g c (exprs e es) (r ∷ rs) o = args_out g c es rs (range_out r (expr_out g c e o))

-- ---- what is stored to

abbrev pub index_out : Program → Scope → Ref → Out → Out
index_out g c (whole x) o = o
index_out g c (part x e) o = expr_out g c e o

abbrev pub store_to : Area → ℤ → Instr
store_to area.Frame w = i.StoreLocal w
store_to area.Process w = i.StoreOwn w
store_to area.Monitor w = i.StoreMon w

abbrev pub store_at_out : Area → ℤ → VarShape → Out → Out
store_at_out a w shape.Single o = o
store_at_out area.Frame w (shape.Array low len) o = push o (i.StoreLocalAt w low len)
store_at_out area.Process w (shape.Array low len) o = push o (i.StoreOwnAt w low len)
store_at_out area.Monitor w (shape.Array low len) o = push o (i.StoreMonAt w low len)

-- the check of the range, if any, and the store, where what is stored to is a variable
abbrev pub put_whole : Option VarLocation → Out → Out
put_whole None o = o
put_whole (Some s) o = push (range_out s.range o) (store_to s.area s.word)

abbrev pub put_part : Option VarLocation → Out → Out
put_part None o = o
put_part (Some s) o = store_at_out s.area s.word s.shape (range_out s.range o)

abbrev pub put_out : Program → Scope → Ref → Out → Out
put_out g c (whole x) o = put_whole (told_spot (spot_of g c x)) o
put_out g c (part x e) o = put_part (told_spot (spot_of g c x)) o

-- the store alone
abbrev pub store_whole : Option VarLocation → Out → Out
store_whole None o = o
store_whole (Some s) o = push o (store_to s.area s.word)

abbrev pub store_part : Option VarLocation → Out → Out
store_part None o = o
store_part (Some s) o = store_at_out s.area s.word s.shape o

abbrev pub store_out : Program → Scope → Ref → Out → Out
store_out g c (whole x) o = store_whole (told_spot (spot_of g c x)) o
store_out g c (part x e) o = store_part (told_spot (spot_of g c x)) o

-- ---- exits whose address is not known yet

abbrev pub open_exit : Instr
open_exit = i.Exit (negsuc 0)

abbrev pub aimed : ℤ → Instr → Instr
aimed to (i.Exit t) = i.Exit (cond (int_lt t (pos 0)) to t)
aimed to j = j

abbrev pub aim_one : ℤ → ℕ → Option Instr → List Instr → List Instr
aim_one to p None code = code
aim_one to p (Some j) code = slice_set code p (aimed to j)

-- so many instructions from an address on, each exit aimed
abbrev pub aims : ℤ → ℕ → ℕ → List Instr → List Instr
aims to p zero code = code
aims to p (suc n) code = aims to (p + 1) n (aim_one to p (slice_get code p) code)

-- all exits from an address on go to the end of the code
abbrev pub aim : ℕ → Out → Out
aim p o = record { code = aims (fit (pos (length o.code))) p (length o.code - p) o.code; segs = o.segs; from = o.from; word = o.word }

-- ---- statements

-- a choice whose first arm is made, with the address of its jump; the second arm is empty
abbrev pub one_arm : ℕ → List Seg → Out → Out
one_arm at before first =
    joined (patched (push first (i.Jump (fit (pos (length first.code + 1))))) at (i.JumpZero (fit (pos (length first.code + 1))))) before (fork (closed first) [])

-- the second arm begins behind the first one's jump, whose address is not known yet
abbrev pub between : ℕ → Out → Out
between at first = begun (patched (push first (i.Jump (pos 0))) at (i.JumpZero (fit (pos (length first.code + 1)))))

abbrev pub two_arms : ℕ → List Seg → Out → Out → Out
two_arms mid before first second = joined (patched second mid (i.Jump (fit (pos (length second.code))))) before (fork (closed first) (closed second))

-- a choice begins behind its condition
abbrev pub choice : Out → Out
choice o = begun (push o (i.JumpZero (pos 0)))

-- a loop's variable gets its first number
abbrev pub counting : ℤ → Out → Out
counting low o = push (push o (i.Push low)) (i.StoreLocal (fit (pos o.word)))

-- the number that a constant is, as it fits into an operand
abbrev pub worth : Program → Constant → ℤ
worth g c = fit (constant_value g c)

-- how many turns a loop with these bounds has
abbrev pub turns_between : Program → (low high : Constant) → ℕ
turns_between g low high = turns_of (worth g low) (worth g high)

-- the same of constants as the generator has them
abbrev pub worth_told : Program → Told → ℤ
worth_told g c = worth g (plain_constant (placed_constant c))

abbrev pub turns_told : Program → (low high : Told) → ℕ
turns_told g low high = turns_of (worth_told g low) (worth_told g high)

-- a loop of these turns begins behind its first store
abbrev pub turning : ℕ → Out → Out
turning n o = counted (begun (push o (i.Repeats (fit (pos n)))))

-- the rest of a turn
abbrev pub stepped : ℤ → Out → Out
stepped w o = push (push (push (push o (i.LoadLocal w)) (i.Push (pos 1))) i.Add) (i.StoreLocal w)

-- the loop ends, whose body began at an address and is made with the rest of the turn
abbrev pub looped : ℕ → ℕ → List Seg → Out → Out
looped n start before body = joined (aim start (push body (i.Repeat (fit (pos start))))) before (rep (min n 4294967295) (closed body))

-- a condition of the monitor whose text it is
abbrev pub condition_told : Program → Scope → (cond : List ℕ) → ℤ
condition_told g c x = fit (pos (condition_of g c.owner x))

-- a constant that is used as a number of ticks or as an exception number
abbrev pub count_told : Program → Constant → ℤ
count_told g n = fit (pos (count_value g n))

-- a wait for a condition, with the way back into the monitor
abbrev pub waiting : (cond limit number : ℤ) → (mon : ℕ) → Out → Out
waiting x limit number m o = joined (push (push o (i.Wait x limit number)) (i.Reenter (fit (pos m)))) (closed o) seg.Wait

-- a choice behind its condition whose first arm is empty; the second raises the exception of a
-- failed assertion
abbrev pub asserting : Out → Out
asserting o =
    joined (push (push (push o (i.JumpZero (fit (pos (length o.code + 2))))) (i.Jump (fit (pos (length o.code + 3))))) (i.Raise (pos 4))) (closed o)
    (fork [] (seg.Line 1 ∷ []))

abbrev mutual
  pub stmt_out : Program → Scope → Stmt → Out → Out
  stmt_out g c (assign r e) o = put_out g c r (expr_out g c e (index_out g c r o))
  stmt_out g c (put d e) o = push (expr_out g c e o) (i.Out (fit (pos (device_number g d))))
  stmt_out g c (when e a) o =
      one_arm (length (expr_out g c e o).code) (closed (expr_out g c e o)) (stmts_out g c a (choice (expr_out g c e o)))
  stmt_out g c (when_else e a b) o =
      two_arms (length (stmts_out g c a (choice (expr_out g c e o))).code) (closed (expr_out g c e o))
      (stmts_out g c a (choice (expr_out g c e o)))
      (stmts_out g c b (between (length (expr_out g c e o).code) (stmts_out g c a (choice (expr_out g c e o)))))
  stmt_out g c (loop x low high ss) o =
      looped (turns_between g low high) (length (turning (turns_between g low high) (counting (worth g low) o)).code) (closed (counting (worth g low) o))
      (stepped (fit (pos o.word)) (stmts_out g (within c x o.word) ss (turning (turns_between g low high) (counting (worth g low) o))))
  stmt_out g c (exit_when e) o = joined (push (expr_out g c e o) open_exit) (closed (expr_out g c e o)) seg.Exit
  stmt_out g c (assign_entry r m e es) o =
      put_out g c r (call_out (told_callee g (entry_in g m e)) (λ rs. args_out g c es rs (index_out g c r o)) (index_out g c r o))
  stmt_out g c (assign_empty r x) o = store_out g c r (push (index_out g c r o) (i.Empty (condition_told g c x)))
  stmt_out g c (perform f es) o = call_out (told_callee g (routine_in g c.owner f)) (λ rs. args_out g c es rs o) o
  stmt_out g c (perform_entry m e es) o = call_out (told_callee g (entry_in g m e)) (λ rs. args_out g c es rs o) o
  stmt_out g c (get d r) o = put_out g c r (push (index_out g c r o) (i.In (fit (pos (device_number g d)))))
  stmt_out g c (wait x limit number) o = waiting (condition_told g c x) (count_told g limit) (count_told g number) (monitor_of c.owner) o
  stmt_out g c (signal x) o = push o (i.Signal (condition_told g c x))
  stmt_out g c (broadcast x) o = push o (i.Broadcast (condition_told g c x))
  stmt_out g c (except n) o = push o (i.Raise (count_told g n))
  stmt_out g c (assert e) o = asserting (expr_out g c e o)

  pub stmts_out : Program → Scope → Stmts → Out → Out
  stmts_out g c no_stmts o = o
  stmts_out g c (stmts s ss) o = stmts_out g c ss (stmt_out g c s o)

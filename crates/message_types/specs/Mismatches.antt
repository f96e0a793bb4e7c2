-- What does not agree in an expression, in a statement and in the result of a function: the first
-- mismatch, where there is one.
use Rattle.std.specs.Prelude.{ℕ, ◌+◌, ◌==◌, List, ◌∷◌, Option, Some, None, length, if◌then◌else◌}
use Rattle.std.specs.Option.{option_or}
use Rattle.syntax_tree.specs.Plain.{Name, Op, or, and, equal, unequal, less, less_equal, greater, greater_equal, add, sub, mul, div, remainder}
use Rattle.syntax_tree.specs.Placed.{Param, Expr, literal, truth, variable, element, call, minus, negation, paren, row, Exprs, no_exprs, exprs, Operands, no_operands, operand, Ref, whole, part, Stmt, assign, assign_entry, assign_empty, perform, perform_entry, when, when_else, loop, exit_when, get, put, wait, signal, broadcast, except, assert}
use Rattle.syntax_tree.specs.declared.place.Place.{Place}
use Rattle.static_declarations.specs.declared.sort.Sort.{Sort}
use Rattle.static_declarations.specs.declared.sort.Sort.TheVariants as sort_is
use Rattle.static_declarations.specs.Sorts.{same_sort, gives}
use Rattle.static_declarations.specs.Things.{Thing, sort_of}
use Rattle.static_types.specs.Sorts.{Named, is_array, asked, sort, answer_sort}
use Rattle.static_types.specs.Types.{target_sort}

-- where a value of a sort is wanted
pub data Spot : Type 0 where
  test_of_if : Spot
  test_of_exit : Spot
  test_of_assert : Spot
  assigned_to : (target : Name) → Spot
  got_into : (target : Name) → Spot
  put_to : (device : Name) → Spot
  argument : (number : ℕ) → (routine : Name) → Spot
  index_of : (array : Name) → Spot
  left_of : Op → Spot
  right_of : Op → Spot
  behind_minus : Spot
  behind_not : Spot
  result_of : (function : Name) → Spot

-- what does not agree
pub data Mismatch : Type 0 where
  -- a value of one sort stands where the other is wanted
  sorts_differ : Spot → (wanted found : Sort) → Mismatch
  -- a call has more or fewer arguments than the routine has parameters
  counts_differ : (routine : Name) → (wanted found : ℕ) → Mismatch
  -- an array stands without an index
  lacks_index : (array : Name) → Mismatch
  -- what is no array stands with an index
  has_index : Name → Mismatch

-- ---- tests of one thing

-- a sort is found where another is wanted; what has no sort of its own goes with every sort
abbrev pub differ : Spot → (wanted found : Option Sort) → Option Mismatch
differ spot (Some wanted) (Some found) = if same_sort wanted found then None else Some (sorts_differ spot wanted found)
differ spot wanted found = None

-- a name that is used without an index is an array
abbrev pub used_whole : Option Thing → Name → Option Mismatch
used_whole thing name = if is_array thing then Some (lacks_index name) else None

-- a name that is used with an index is no array
abbrev pub used_by_element : Option Thing → Name → Option Mismatch
used_by_element thing name = if is_array thing then None else Some (has_index name)

abbrev pub count : Exprs Place → ℕ
count no_exprs = 0
count (exprs e es) = count es + 1

-- there are not as many arguments as parameters
abbrev pub miscounted : Name → Option (List (Param Place)) → Exprs Place → Option Mismatch
miscounted routine None args = None
miscounted routine (Some params) args = if count args == length params then None else Some (counts_differ routine (length params) (count args))

-- the sort that an operator wants on both sides; `=` and `<>` want two that go together
abbrev pub wants : Op → Option Sort
wants or = Some sort_is.Truth
wants and = Some sort_is.Truth
wants equal = None
wants unequal = None
wants less = Some sort_is.Number
wants less_equal = Some sort_is.Number
wants greater = Some sort_is.Number
wants greater_equal = Some sort_is.Number
wants add = Some sort_is.Number
wants sub = Some sort_is.Number
wants mul = Some sort_is.Number
wants div = Some sort_is.Number
wants remainder = Some sort_is.Number

-- an operator between these sorts: the left one, the right one, and whether they go together
abbrev pub misjoined : Op → (left right : Option Sort) → Option Mismatch
misjoined op left right = option_or (differ (left_of op) (wants op) left) (option_or (differ (right_of op) (wants op) right) (differ (right_of op) left right))

-- ---- expressions

abbrev mutual
  -- what stands inside comes before what is around it: an index before its array, the number of the
  -- arguments before the arguments
  pub mismatch : Named → Expr Place → Option Mismatch
  mismatch named (literal p n) = None
  mismatch named (truth p b) = None
  mismatch named (variable p name) = used_whole (named p) name
  mismatch named (element p name i) = option_or (mismatch named i) (option_or (differ (index_of name) (Some sort_is.Number) (sort named i)) (used_by_element (named p) name))
  mismatch named (call p name es) = option_or (miscounted name (asked (named p)) es) (args_mismatch named name 1 (asked (named p)) es)
  mismatch named (minus p e) = option_or (mismatch named e) (differ behind_minus (Some sort_is.Number) (sort named e))
  mismatch named (negation p e) = option_or (mismatch named e) (differ behind_not (Some sort_is.Truth) (sort named e))
  mismatch named (paren p e) = mismatch named e
  mismatch named (row e rs) = option_or (mismatch named e) (row_mismatch named (sort named e) rs)

  -- in the rest of a row, what stands left of it having the sort `left`: an operator's right operand
  -- comes before the operator
  pub row_mismatch : Named → (left : Option Sort) → Operands Place → Option Mismatch
  row_mismatch named left no_operands = None
  row_mismatch named left (operand op e rs) = option_or (mismatch named e) (option_or (misjoined op left (sort named e)) (row_mismatch named (Some (gives op)) rs))

  -- in the arguments from the one with this number on, each against its parameter
  pub args_mismatch : Named → Name → (number : ℕ) → Option (List (Param Place)) → Exprs Place → Option Mismatch
  args_mismatch named routine number (Some (v ∷ vs)) (exprs e es) = option_or (mismatch named e) (option_or (differ (argument number routine) (Some (sort_of v.kind)) (sort named e)) (args_mismatch named routine (number + 1) (Some vs) es))
  args_mismatch named routine number params es = None

-- in an expression, or that it is not of the sort that is wanted there
abbrev pub unfit : Named → Spot → (wanted : Sort) → Expr Place → Option Mismatch
unfit named spot wanted e = option_or (mismatch named e) (differ spot (Some wanted) (sort named e))

-- ---- statements

-- in what is assigned to, which is as in an expression
abbrev pub target_mismatch : Named → Ref Place → Option Mismatch
target_mismatch named (whole p name) = mismatch named (variable p name)
target_mismatch named (part p name i) = mismatch named (element p name i)

abbrev pub target_name : Ref Place → Name
target_name (whole p name) = name
target_name (part p name i) = name

-- a value of a sort is not what may be assigned there
abbrev pub misassigned : Named → Ref Place → Option Sort → Option Mismatch
misassigned named r s = differ (assigned_to (target_name r)) (target_sort named r) s

-- in a statement, those in it aside: what is assigned to comes before the value
abbrev pub stmt_mismatch : Named → Stmt Place → Option Mismatch
stmt_mismatch named (assign r e) = option_or (target_mismatch named r) (option_or (mismatch named e) (misassigned named r (sort named e)))
stmt_mismatch named (assign_entry r mon p entry q es) = option_or (target_mismatch named r) (option_or (mismatch named (call q entry es)) (misassigned named r (answer_sort (named q))))
stmt_mismatch named (assign_empty r cond p) = option_or (target_mismatch named r) (misassigned named r (Some sort_is.Truth))
stmt_mismatch named (perform p name es) = mismatch named (call p name es)
stmt_mismatch named (perform_entry p mon entry q es) = mismatch named (call q entry es)
stmt_mismatch named (when p e a) = unfit named test_of_if sort_is.Truth e
stmt_mismatch named (when_else p e a b) = unfit named test_of_if sort_is.Truth e
stmt_mismatch named (loop p name q low high a) = None
stmt_mismatch named (exit_when p e) = unfit named test_of_exit sort_is.Truth e
stmt_mismatch named (get p dev q r) = option_or (target_mismatch named r) (differ (got_into (target_name r)) (Some sort_is.Number) (target_sort named r))
stmt_mismatch named (put p dev q e) = unfit named (put_to dev) sort_is.Number e
stmt_mismatch named (wait p cond q limit number) = None
stmt_mismatch named (signal p cond q) = None
stmt_mismatch named (broadcast p cond q) = None
stmt_mismatch named (except p number) = None
stmt_mismatch named (assert p e) = unfit named test_of_assert sort_is.Truth e

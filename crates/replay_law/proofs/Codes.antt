-- Code whose operands are words, and what is made of expressions.
use Rattle.std.proofs.Common.{◌≡◌, ◌<◌, ℕ, zero, suc, ℤ, pos, negsuc, Bool, true, false, List, [], ◌∷◌, ◌++◌, Option, Some, None, arith, subst}
use Rattle.std.specs.Prelude.{FitsSigned, All, map, option_map, slice_get, slice_set}
use Rattle.std.specs.Int.{w32}
use Rattle.std.proofs.lemmas.List.Elements.{All-nil, All-cons}
use Rattle.syntax_tree.specs.Plain.{Param, Scalar, Expr, literal, truth, variable, element, call, minus, negation, paren, row, Exprs, no_exprs, exprs, Operands, no_operands, operand, Op, or, and, equal, unequal, less, less_equal, greater, greater_equal, add, sub, mul, div, remainder, Ref, whole, part, Program}
use Rattle.base.specs.Words.{of_bool}
use Rattle.machine_isa.specs.declared.instr.Instr.{Instr}
use Rattle.machine_isa.specs.declared.instr.Instr.TheVariants as i
use Rattle.machine_isa.specs.Bytes.{HasWords}
use Rattle.code_spec.specs.Layout as layout
use Rattle.code_spec.specs.Layout.{Scope, spot_of}
use Rattle.code_spec.specs.Code.{constant_named, op_instr}
use Rattle.code_spec.specs.Numbering.{Text, routine_in}
use Rattle.source_semantics.specs.Store as store
use Rattle.codegen_spec.specs.declared.var_location.Area.{Area}
use Rattle.codegen_spec.specs.declared.var_location.Area.TheVariants as area
use Rattle.codegen_spec.specs.declared.var_location.VarShape.{VarShape}
use Rattle.codegen_spec.specs.declared.var_location.VarShape.TheVariants as shape
use Rattle.codegen_spec.specs.declared.var_location.ValueRange.{ValueRange}
use Rattle.codegen_spec.specs.declared.var_location.VarLocation.{VarLocation}
use Rattle.codegen_spec.specs.declared.var_location.Callee.{Callee}
use Rattle.codegen_spec.specs.Told.{fit, range_told, told_callee, told_range, told_shape, told_spot, value_told}
use Rattle.codegen_spec.specs.Made.{Out, push, load_from, load_told, load_at_from, load_at_told, range_out, called, call_out, expr_out, row_out, args_out, index_out, store_to, store_at_out, put_whole, put_part, put_out, store_whole, store_part, store_out}

-- ---- numbers

-- a signed number of 32 bits
abbrev pub IsWord : ℤ → Type 0
IsWord z = FitsSigned w32 z

pub low_word : (n : ℕ) → n < 2147483648 → IsWord (pos n)
low_word n low = record { sfits = omega arith }

pub zero_word : IsWord (pos 0)
zero_word = low_word 0 (omega arith)

pub fit_word : (z : ℤ) → IsWord (fit z)
fit_word (pos n) = record { sfits = omega arith }
fit_word (negsuc n) = record { sfits = omega arith }

truth_word : (b : Bool) → IsWord (of_bool b)
truth_word true = low_word 1 (omega arith)
truth_word false = zero_word

-- ---- code

-- each instruction has such operands
abbrev pub Each : List Instr → Type 0
Each [] = Unit {0}
Each (j ∷ js) = HasWords j × Each js

pub all_of : (code : List Instr) → Each code → All HasWords code
all_of [] each = All-nil HasWords
all_of (j ∷ js) each = All-cons HasWords j js each.0 (all_of js each.1)

joined_each : (xs ys : List Instr) → Each xs → Each ys → Each (xs ++ ys)
joined_each [] ys one two = two
joined_each (x ∷ xs) ys one two = (one.0, joined_each xs ys one.1 two)

pub set_each : (xs : List Instr) (k : ℕ) (j : Instr) → HasWords j → Each xs → Each (slice_set xs k j)
set_each [] k j new each = tt
set_each (x ∷ xs) zero j new each = (new, each.1)
set_each (x ∷ xs) (suc k) j new each = (each.0, set_each xs k j new each.1)

pub get_each : (xs : List Instr) (k : ℕ) (j : Instr) → Each xs → slice_get xs k ≡ Some j → HasWords j
get_each [] k j each at = absurd cc
get_each (x ∷ xs) zero j each at = let same : x ≡ j = cc in subst HasWords same each.0
get_each (x ∷ xs) (suc k) j each at = get_each xs k j each.1 at

-- the code made so far
abbrev pub Good : Out → Type 0
Good o = Each o.code

pub push_good : (o : Out) (j : Instr) → Good o → HasWords j → Good (push o j)
push_good o j good new = joined_each o.code (j ∷ []) good (new, tt)

-- the operands of an instruction that names one, or none
pub one : (z : ℤ) → IsWord z → IsWord z × (IsWord (pos 0) × (IsWord (pos 0) × Unit {0}))
one z word = (word, (zero_word, (zero_word, tt)))

pub none : IsWord (pos 0) × (IsWord (pos 0) × (IsWord (pos 0) × Unit {0}))
none = one (pos 0) zero_word

-- ---- names

abbrev pub IsShape : VarShape → Type 0
IsShape shape.Single = Unit {0}
IsShape (shape.Array low len) = IsWord low × IsWord len

pub record IsRange (r : ValueRange) : Type 0 where
  pub low : IsWord r.low
  pub high : IsWord r.high

abbrev pub IsRangeSome : Option ValueRange → Type 0
IsRangeSome None = Unit {0}
IsRangeSome (Some r) = IsRange r

abbrev pub IsSpot : Option VarLocation → Type 0
IsSpot None = Unit {0}
IsSpot (Some s) = IsWord s.word × IsShape s.shape × IsRangeSome s.range

abbrev pub AreRanges : List (Option ValueRange) → Type 0
AreRanges [] = Unit {0}
AreRanges (r ∷ rs) = IsRangeSome r × AreRanges rs

abbrev pub IsCallee : Option Callee → Type 0
IsCallee None = Unit {0}
IsCallee (Some k) = AreRanges k.ranges

shape_is : (s : layout.Shape) → IsShape (told_shape s)
shape_is layout.single = tt
shape_is (layout.array low len) = (fit_word low, fit_word (pos len))

told_range_is : (r : Option store.Range) → IsRangeSome (option_map told_range r)
told_range_is None = tt
told_range_is (Some r) = record { low = fit_word r.low; high = fit_word r.high }

pub spot_is : (s : Option layout.Spot) → IsSpot (told_spot s)
spot_is None = tt
spot_is (Some s) = (fit_word (pos s.place.word), shape_is s.place.shape, told_range_is s.place.range)

pub kind_is : (g : Program) (k : Scalar) → IsRangeSome (range_told g k)
kind_is g k = told_range_is (store.range_of g k)

ranges_are : (g : Program) (ps : List Param) → AreRanges (map (λ p. range_told g p.kind) ps)
ranges_are g [] = tt
ranges_are g (p ∷ ps) = (kind_is g p.kind, ranges_are g ps)

pub callee_is : (g : Program) (t : Option Text) → IsCallee (told_callee g t)
callee_is g None = tt
callee_is g (Some t) = ranges_are g t.routine.params

-- ---- expressions

load_from_words : (a : Area) (w : ℤ) → IsWord w → HasWords (load_from a w)
load_from_words area.Frame w word = one w word
load_from_words area.Process w word = one w word
load_from_words area.Monitor w word = one w word

load_words : (s : Option VarLocation) (k : ℤ) → IsSpot s → IsWord k → HasWords (load_told s k)
load_words None k is word = one k word
load_words (Some s) k is word = load_from_words s.area s.word is.0

load_at_from_words : (a : Area) (w : ℤ) (s : VarShape) → IsWord w → IsShape s → HasWords (load_at_from a w s)
load_at_from_words area.Frame w shape.Single word is = none
load_at_from_words area.Process w shape.Single word is = none
load_at_from_words area.Monitor w shape.Single word is = none
load_at_from_words area.Frame w (shape.Array low len) word is = (word, (is.0, (is.1, tt)))
load_at_from_words area.Process w (shape.Array low len) word is = (word, (is.0, (is.1, tt)))
load_at_from_words area.Monitor w (shape.Array low len) word is = (word, (is.0, (is.1, tt)))

load_at_words : (s : Option VarLocation) → IsSpot s → HasWords (load_at_told s)
load_at_words None is = none
load_at_words (Some s) is = load_at_from_words s.area s.word s.shape is.0 is.1

pub range_good : (r : Option ValueRange) (o : Out) → IsRangeSome r → Good o → Good (range_out r o)
range_good None o is good = good
range_good (Some r) o is good = push_good o (i.Range r.low r.high) good (is.low, (is.high, (zero_word, tt)))

op_words : (op : Op) → HasWords (op_instr op)
op_words or = none
op_words and = none
op_words equal = none
op_words unequal = none
op_words less = none
op_words less_equal = none
op_words greater = none
op_words greater_equal = none
op_words add = none
op_words sub = none
op_words mul = none
op_words div = none
op_words remainder = none

called_good : (n : ℕ) (o : Out) → Good o → Good (called n o)
called_good n o good = push_good o (i.Call (fit (pos n))) good (one (fit (pos n)) (fit_word (pos n)))

pub call_good : (k : Option Callee) (args : List (Option ValueRange) → Out) (o : Out) → IsCallee k → ((rs : List (Option ValueRange)) → AreRanges rs → Good (args rs)) → Good o → Good (call_out k args o)
call_good None args o is all good = good
call_good (Some k) args o is all good = called_good k.number (args k.ranges) (all k.ranges is)

mutual
  pub expr_good : (g : Program) (c : Scope) (e : Expr) (o : Out) → Good o → Good (expr_out g c e o)
  expr_good g c (literal n) o good = push_good o (i.Push (fit (pos n))) good (one (fit (pos n)) (fit_word (pos n)))
  expr_good g c (truth b) o good = push_good o (i.Push (of_bool b)) good (one (of_bool b) (truth_word b))
  expr_good g c (variable x) o good =
      push_good o (load_told (told_spot (spot_of g c x)) (fit (value_told (constant_named g x)))) good
      (load_words (told_spot (spot_of g c x)) (fit (value_told (constant_named g x))) (spot_is (spot_of g c x)) (fit_word (value_told (constant_named g x))))
  expr_good g c (element x e) o good =
      push_good (expr_out g c e o) (load_at_told (told_spot (spot_of g c x))) (expr_good g c e o good) (load_at_words (told_spot (spot_of g c x)) (spot_is (spot_of g c x)))
  expr_good g c (call f es) o good =
      call_good (told_callee g (routine_in g c.owner f)) (λ rs. args_out g c es rs o) o (callee_is g (routine_in g c.owner f)) (λ rs are. args_good g c es rs o are good) good
  expr_good g c (minus e) o good = push_good (expr_out g c e o) i.Neg (expr_good g c e o good) none
  expr_good g c (negation e) o good = push_good (expr_out g c e o) i.Not (expr_good g c e o good) none
  expr_good g c (paren e) o good = expr_good g c e o good
  expr_good g c (row e r) o good = row_good g c r (expr_out g c e o) (expr_good g c e o good)

  pub row_good : (g : Program) (c : Scope) (r : Operands) (o : Out) → Good o → Good (row_out g c r o)
  row_good g c no_operands o good = good
  row_good g c (operand op e r) o good =
      row_good g c r (push (expr_out g c e o) (op_instr op)) (push_good (expr_out g c e o) (op_instr op) (expr_good g c e o good) (op_words op))

  pub args_good : (g : Program) (c : Scope) (es : Exprs) (rs : List (Option ValueRange)) (o : Out) → AreRanges rs → Good o → Good (args_out g c es rs o)
  args_good g c no_exprs rs o are good = good
  args_good g c (exprs e es) [] o are good = good
  args_good g c (exprs e es) (r ∷ rs) o are good =
      args_good g c es rs (range_out r (expr_out g c e o)) are.1 (range_good r (expr_out g c e o) are.0 (expr_good g c e o good))

-- ---- what is stored to

pub index_good : (g : Program) (c : Scope) (r : Ref) (o : Out) → Good o → Good (index_out g c r o)
index_good g c (whole x) o good = good
index_good g c (part x e) o good = expr_good g c e o good

store_to_words : (a : Area) (w : ℤ) → IsWord w → HasWords (store_to a w)
store_to_words area.Frame w word = one w word
store_to_words area.Process w word = one w word
store_to_words area.Monitor w word = one w word

store_at_good : (a : Area) (w : ℤ) (s : VarShape) (o : Out) → IsWord w → IsShape s → Good o → Good (store_at_out a w s o)
store_at_good area.Frame w shape.Single o word is good = good
store_at_good area.Process w shape.Single o word is good = good
store_at_good area.Monitor w shape.Single o word is good = good
store_at_good area.Frame w (shape.Array low len) o word is good = push_good o (i.StoreLocalAt w low len) good (word, (is.0, (is.1, tt)))
store_at_good area.Process w (shape.Array low len) o word is good = push_good o (i.StoreOwnAt w low len) good (word, (is.0, (is.1, tt)))
store_at_good area.Monitor w (shape.Array low len) o word is good = push_good o (i.StoreMonAt w low len) good (word, (is.0, (is.1, tt)))

put_whole_good : (s : Option VarLocation) (o : Out) → IsSpot s → Good o → Good (put_whole s o)
put_whole_good None o is good = good
put_whole_good (Some s) o is good = push_good (range_out s.range o) (store_to s.area s.word) (range_good s.range o is.2 good) (store_to_words s.area s.word is.0)

put_part_good : (s : Option VarLocation) (o : Out) → IsSpot s → Good o → Good (put_part s o)
put_part_good None o is good = good
put_part_good (Some s) o is good = store_at_good s.area s.word s.shape (range_out s.range o) is.0 is.1 (range_good s.range o is.2 good)

pub put_good : (g : Program) (c : Scope) (r : Ref) (o : Out) → Good o → Good (put_out g c r o)
put_good g c (whole x) o good = put_whole_good (told_spot (spot_of g c x)) o (spot_is (spot_of g c x)) good
put_good g c (part x e) o good = put_part_good (told_spot (spot_of g c x)) o (spot_is (spot_of g c x)) good

store_whole_good : (s : Option VarLocation) (o : Out) → IsSpot s → Good o → Good (store_whole s o)
store_whole_good None o is good = good
store_whole_good (Some s) o is good = push_good o (store_to s.area s.word) good (store_to_words s.area s.word is.0)

store_part_good : (s : Option VarLocation) (o : Out) → IsSpot s → Good o → Good (store_part s o)
store_part_good None o is good = good
store_part_good (Some s) o is good = store_at_good s.area s.word s.shape o is.0 is.1 good

pub store_good : (g : Program) (c : Scope) (r : Ref) (o : Out) → Good o → Good (store_out g c r o)
store_good g c (whole x) o good = store_whole_good (told_spot (spot_of g c x)) o (spot_is (spot_of g c x)) good
store_good g c (part x e) o good = store_part_good (told_spot (spot_of g c x)) o (spot_is (spot_of g c x)) good

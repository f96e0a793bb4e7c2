-- The code of expressions, of arguments, and of what is stored to: straight lines of instructions.
use Rattle.std.specs.Prelude.{ℕ, List, [], ◌∷◌, ◌++◌, Option, Some, None, ℤ, pos}
use Rattle.syntax_tree.specs.Plain.{Name, Param, Op, or, and, equal, unequal, less, less_equal, greater, greater_equal, add, sub, mul, div, remainder, Expr, literal, truth, variable, element, call, minus, negation, paren, row, Exprs, no_exprs, exprs, Operands, no_operands, operand, Ref, whole, part, Program}
use Rattle.base.specs.Words.{of_bool}
use Rattle.source_semantics.specs.Names.{named, constants}
use Rattle.source_semantics.specs.Store.{Range, range_of}
use Rattle.machine_isa.specs.declared.instr.Instr.{Instr}
use Rattle.machine_isa.specs.declared.instr.Instr.TheVariants as i
use Rattle.code_spec.specs.Layout.{Shape, single, array, Area, in_frame, in_process, in_monitor, Spot, Scope, spot_of}
use Rattle.code_spec.specs.Numbering.{Text, routine_in, number_of}

-- ---- loads and stores

abbrev pub load : Area → ℤ → Instr
load in_frame w = i.LoadLocal w
load in_process w = i.LoadOwn w
load in_monitor w = i.LoadMon w

abbrev pub load_at : Area → ℤ → ℤ → ℤ → Instr
load_at in_frame w low len = i.LoadLocalAt w low len
load_at in_process w low len = i.LoadOwnAt w low len
load_at in_monitor w low len = i.LoadMonAt w low len

abbrev pub store : Area → ℤ → Instr
store in_frame w = i.StoreLocal w
store in_process w = i.StoreOwn w
store in_monitor w = i.StoreMon w

abbrev pub store_at : Area → ℤ → ℤ → ℤ → Instr
store_at in_frame w low len = i.StoreLocalAt w low len
store_at in_process w low len = i.StoreOwnAt w low len
store_at in_monitor w low len = i.StoreMonAt w low len

abbrev pub op_instr : Op → Instr
op_instr or = i.Or
op_instr and = i.And
op_instr equal = i.Eq
op_instr unequal = i.Ne
op_instr less = i.Lt
op_instr less_equal = i.Le
op_instr greater = i.Gt
op_instr greater_equal = i.Ge
op_instr add = i.Add
op_instr sub = i.Sub
op_instr mul = i.Mul
op_instr div = i.Div
op_instr remainder = i.Mod

-- a name: the variable that it means, else a constant's value
abbrev pub load_name : Option Spot → Option (Name × ℤ) → Instr
load_name (Some s) k = load s.area (pos s.place.word)
load_name None (Some k) = i.Push k.1
load_name None None = i.Push (pos 0)

abbrev pub load_shape : Area → ℕ → Shape → Instr
load_shape a w single = i.Push (pos 0)
load_shape a w (array low len) = load_at a (pos w) low (pos len)

-- an element, whose index is the top operand
abbrev pub load_element : Option Spot → Instr
load_element None = i.Push (pos 0)
load_element (Some s) = load_shape s.area s.place.word s.place.shape

abbrev pub constant_named : Program → Name → Option (Name × ℤ)
constant_named g x = named (λ k. k.0) x (constants g)

-- the check of a range, where there is one
abbrev pub range_code : Option Range → List Instr
range_code None = []
range_code (Some r) = i.Range r.low r.high ∷ []

-- ---- expressions

-- a call of a routine, whose arguments are given
abbrev pub call_code : Program → Option Text → (List Param → List Instr) → List Instr
call_code g None args = []
call_code g (Some t) args = args t.routine.params ++ (i.Call (pos (number_of g t)) ∷ [])

abbrev mutual
  pub code_of : Program → Scope → Expr → List Instr
  code_of g c (literal n) = i.Push (pos n) ∷ []
  code_of g c (truth b) = i.Push (of_bool b) ∷ []
  code_of g c (variable x) = load_name (spot_of g c x) (constant_named g x) ∷ []
  code_of g c (element x e) = code_of g c e ++ (load_element (spot_of g c x) ∷ [])
  code_of g c (call f es) = call_code g (routine_in g c.owner f) (λ ps. args_code g c es ps)
  code_of g c (minus e) = code_of g c e ++ (i.Neg ∷ [])
  code_of g c (negation e) = code_of g c e ++ (i.Not ∷ [])
  code_of g c (paren e) = code_of g c e
  code_of g c (row e r) = code_of g c e ++ row_code g c r

  pub row_code : Program → Scope → Operands → List Instr
  row_code g c no_operands = []
  row_code g c (operand op e r) = code_of g c e ++ (op_instr op ∷ row_code g c r)

  -- each argument, and the check of its parameter's range
  pub args_code : Program → Scope → Exprs → List Param → List Instr
  args_code g c no_exprs ps = []
  args_code g c (exprs e es) [] = []
  args_code g c (exprs e es) (p ∷ ps) = code_of g c e ++ (range_code (range_of g p.kind) ++ args_code g c es ps)

-- ---- targets

abbrev pub range_of_spot : Option Spot → Option Range
range_of_spot None = None
range_of_spot (Some s) = s.place.range

abbrev pub store_spot : Option Spot → List Instr
store_spot None = []
store_spot (Some s) = store s.area (pos s.place.word) ∷ []

abbrev pub store_shape : Area → ℕ → Shape → List Instr
store_shape a w single = []
store_shape a w (array low len) = store_at a (pos w) low (pos len) ∷ []

abbrev pub store_element : Option Spot → List Instr
store_element None = []
store_element (Some s) = store_shape s.area s.place.word s.place.shape

-- the index of what is stored to, if any
abbrev pub index_code : Program → Scope → Ref → List Instr
index_code g c (whole x) = []
index_code g c (part x e) = code_of g c e

abbrev pub store_code : Program → Scope → Ref → List Instr
store_code g c (whole x) = store_spot (spot_of g c x)
store_code g c (part x e) = store_element (spot_of g c x)

abbrev pub ref_name : Ref → Name
ref_name (whole x) = x
ref_name (part x e) = x

-- the check of the range of what is stored to, and the store, of the top operand, above the index
-- of an element
abbrev pub put_code : Program → Scope → Ref → List Instr
put_code g c r = range_code (range_of_spot (spot_of g c (ref_name r))) ++ store_code g c r

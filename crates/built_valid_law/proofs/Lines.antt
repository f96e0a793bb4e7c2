-- The operands of loads, stores, checks and calls.
use Rattle.std.specs.Prelude.{◌≡◌, ◌||◌, ℕ, Bool, true, false, ℤ, pos, negsuc, List, [], ◌∷◌, ◌++◌, Option, Some, None, int_le, All}
use Rattle.std.proofs.Common.{refl, sym, subst}
use Rattle.std.proofs.lemmas.List.Elements.{All-head, All-tail}
use Rattle.base.specs.Words.{within}
use Rattle.syntax_tree.specs.Plain.{Name, Param, Op, or, and, equal, unequal, less, less_equal, greater, greater_equal, add, sub, mul, div, remainder, Expr, literal, truth, variable, element, call, minus, negation, paren, row, Exprs, no_exprs, exprs, Operands, no_operands, operand, Ref, whole, part, Program}
use Rattle.source_semantics.specs.Names.{as_count}
use Rattle.source_semantics.specs.Store.{Range, range_of}
use Rattle.machine_isa.specs.declared.instr.Instr.{Instr}
use Rattle.machine_isa.specs.declared.instr.Instr.TheVariants as i
use Rattle.machine_semantics.specs.Image.{Image}
use Rattle.valid_image.specs.Fault.{or_else}
use Rattle.valid_image.specs.Operands.{Area, Whose, in_area, is_between, bad, bad_array, is_own_condition, is_user_number, may_call}
use Rattle.code_spec.specs.Layout.{Shape, single, array, Area as KindOfArea, in_frame, in_process, in_monitor, Spot, Scope, spot_of, outer_spot}
use Rattle.code_spec.specs.Numbering.{Text, routine_in, number_of}
use Rattle.code_spec.specs.Code.{load, load_at, store, store_at, op_instr, load_name, load_shape, load_element, constant_named, range_code, call_code, code_of, row_code, args_code, range_of_spot, store_spot, store_shape, store_element, index_code, store_code, ref_name, put_code}
use Rattle.static_semantics.specs.WellFormed.{ParamFits}
use Rattle.code_measures.specs.Sound.{SoundExpr, SoundRow, SoundArgs, SoundIndex}
use Rattle.built_valid_law.specs.Lies.{ShapeLies, InOrder, AllLie, area_of, SpotLies}
use Rattle.built_valid_law.proofs.AreasLemmas.{scalar_order, spot_lies, none_bad}
use Rattle.built_valid_law.specs.Has.{AllOf}
use Rattle.built_valid_law.specs.Fine.{IsFine, MayCall}
use Rattle.code_measures.proofs.CostPart.{both_none}

pub all_both : (P : Instr → Type 0) (xs ys : List Instr) → AllOf P xs → AllOf P ys → AllOf P (xs ++ ys)
all_both P [] ys h k = k
all_both P (x ∷ xs) ys h k = (h.0, all_both P xs ys h.1 k)

first_good : (b : Bool) (z : ℤ) (later : Option ℤ) → or_else (bad b z) later ≡ None → b ≡ true
first_good true z later e = refl
first_good false z later e = absurd cc

-- a constant from low to high is a number from low to high
pub number_between : (low high : ℕ) (v : ℤ) → within (pos low) (pos high) v ≡ true → is_between low high (pos (as_count v)) ≡ true
number_between low high (pos n) h = h
number_between low high (negsuc n) h = absurd cc

module _ (m : Image) (w : Whose) where
  load_fine : (a : KindOfArea) (k : ℕ) → in_area (area_of m w a) (pos k) ≡ true → IsFine m w (load a (pos k))
  load_fine in_frame k h = none_bad _ (pos k) h
  load_fine in_process k h = none_bad _ (pos k) h
  load_fine in_monitor k h = none_bad _ (pos k) h

  load_at_fine : (a : KindOfArea) (k len : ℕ) (low : ℤ) → bad_array (area_of m w a) (pos k) low (pos len) ≡ None → IsFine m w (load_at a (pos k) low (pos len))
  load_at_fine in_frame k len low h = h
  load_at_fine in_process k len low h = h
  load_at_fine in_monitor k len low h = h

  store_fine : (a : KindOfArea) (k : ℕ) → in_area (area_of m w a) (pos k) ≡ true → IsFine m w (store a (pos k))
  store_fine in_frame k h = none_bad _ (pos k) h
  store_fine in_process k h = none_bad _ (pos k) h
  store_fine in_monitor k h = none_bad _ (pos k) h

  store_at_fine : (a : KindOfArea) (k len : ℕ) (low : ℤ) → bad_array (area_of m w a) (pos k) low (pos len) ≡ None → IsFine m w (store_at a (pos k) low (pos len))
  store_at_fine in_frame k len low h = h
  store_at_fine in_process k len low h = h
  store_at_fine in_monitor k len low h = h

  -- the first word of what lies there
  first_word : (x : Area) (k : ℕ) (s : Shape) → ShapeLies x k s → in_area x (pos k) ≡ true
  first_word x k single h = h
  first_word x k (array low len) h = first_good (in_area x (pos k)) (pos k) _ h

  name_fine : (s : Option Spot) (k : Option (Name × ℤ)) → SpotLies m w s → IsFine m w (load_name s k)
  name_fine None None h = refl
  name_fine None (Some x) h = refl
  name_fine (Some s) k h = load_fine s.area s.place.word (first_word (area_of m w s.area) s.place.word s.place.shape h.shape)

  load_shape_fine : (a : KindOfArea) (k : ℕ) (s : Shape) → ShapeLies (area_of m w a) k s → IsFine m w (load_shape a k s)
  load_shape_fine a k single h = refl
  load_shape_fine a k (array low len) h = load_at_fine a k len low h

  element_fine : (s : Option Spot) → SpotLies m w s → IsFine m w (load_element s)
  element_fine None h = refl
  element_fine (Some s) h = load_shape_fine s.area s.place.word s.place.shape h.shape

  spot_fine : (s : Option Spot) → SpotLies m w s → AllOf (IsFine m w) (store_spot s)
  spot_fine None h = tt
  spot_fine (Some s) h = (store_fine s.area s.place.word (first_word (area_of m w s.area) s.place.word s.place.shape h.shape), tt)

  store_shape_fine : (a : KindOfArea) (k : ℕ) (s : Shape) → ShapeLies (area_of m w a) k s → AllOf (IsFine m w) (store_shape a k s)
  store_shape_fine a k single h = tt
  store_shape_fine a k (array low len) h = (store_at_fine a k len low h, tt)

  store_element_fine : (s : Option Spot) → SpotLies m w s → AllOf (IsFine m w) (store_element s)
  store_element_fine None h = tt
  store_element_fine (Some s) h = store_shape_fine s.area s.place.word s.place.shape h.shape

  pub range_fine : (r : Option Range) → InOrder r → AllOf (IsFine m w) (range_code r)
  range_fine None h = tt
  range_fine (Some r) h = (none_bad (int_le r.low r.high) r.low h, tt)

  spot_order : (s : Option Spot) → SpotLies m w s → InOrder (range_of_spot s)
  spot_order None h = tt
  spot_order (Some s) h = h.range

  op_fine : (op : Op) → IsFine m w (op_instr op)
  op_fine or = refl
  op_fine and = refl
  op_fine equal = refl
  op_fine unequal = refl
  op_fine less = refl
  op_fine less_equal = refl
  op_fine greater = refl
  op_fine greater_equal = refl
  op_fine add = refl
  op_fine sub = refl
  op_fine mul = refl
  op_fine div = refl
  op_fine remainder = refl

  pub wait_fine : (c limit number : ℕ) → is_own_condition m w (pos c) ≡ true → is_between 1 1000000000 (pos limit) ≡ true → is_user_number (pos number) ≡ true → IsFine m w (i.Wait (pos c) (pos limit) (pos number))
  wait_fine c limit number own some user =
      both_none (bad (is_own_condition m w (pos c)) (pos c)) (or_else (bad (is_between 1 1000000000 (pos limit)) (pos limit)) (bad (is_user_number (pos number)) (pos number))) (none_bad _ (pos c) own)
      (both_none (bad (is_between 1 1000000000 (pos limit)) (pos limit)) (bad (is_user_number (pos number)) (pos number)) (none_bad _ (pos limit) some) (none_bad _ (pos number) user))

  pub raise_fine : (n : ℕ) → is_user_number (pos n) ≡ true → IsFine m w (i.Raise (pos n))
  raise_fine n user = none_bad (is_between 4 4 (pos n) || is_user_number (pos n)) (pos n) (either (is_between 4 4 (pos n)) (is_user_number (pos n)) user)
    where
      either : (a b : Bool) → b ≡ true → a || b ≡ true
      either true b e = refl
      either false b e = e

  -- ---- expressions

  module _ (g : Program) where
    -- the variables in reach lie in their areas
    pub record Reaches (c : Scope) : Type 0 where
      pub own : AllLie (area_of m w in_frame) c.own
      pub outer : (x : Name) → SpotLies m w (outer_spot g c.owner x)

    lies : (c : Scope) (x : Name) → Reaches c → SpotLies m w (spot_of g c x)
    lies c x h = spot_lies g m w c x h.own (h.outer x)

    pub call_fine : (o : Option Text) (t : Text) (args : List Param → List Instr) → o ≡ Some t → MayCall g m w t → AllOf (IsFine m w) (args t.routine.params) → AllOf (IsFine m w) (call_code g o args)
    call_fine o t args is may h =
        subst (λ y. AllOf (IsFine m w) (call_code g y args)) (sym is)
        (all_both (IsFine m w) (args t.routine.params) (i.Call (pos (number_of g t)) ∷ []) h (none_bad (may_call m w (pos (number_of g t))) (pos (number_of g t)) may.open_to, tt))

    mutual
      pub expr_fine : (x : Expr) (c : Scope) → Reaches c → SoundExpr g (MayCall g m w) c x → AllOf (IsFine m w) (code_of g c x)
      expr_fine (literal n) c r h = (refl, tt)
      expr_fine (truth b) c r h = (refl, tt)
      expr_fine (variable x) c r h = (name_fine (spot_of g c x) (constant_named g x) (lies c x r), tt)
      expr_fine (element x e) c r h = all_both (IsFine m w) (code_of g c e) (load_element (spot_of g c x) ∷ []) (expr_fine e c r h.0) (element_fine (spot_of g c x) (lies c x r), tt)
      expr_fine (call f es) c r h =
          call_fine (routine_in g c.owner f) h.0 (λ ps. args_code g c es ps) h.2 h.3 (args_fine es h.0.routine.params c r h.3.params h.5)
      expr_fine (minus e) c r h = all_both (IsFine m w) (code_of g c e) (i.Neg ∷ []) (expr_fine e c r h) (refl, tt)
      expr_fine (negation e) c r h = all_both (IsFine m w) (code_of g c e) (i.Not ∷ []) (expr_fine e c r h) (refl, tt)
      expr_fine (paren e) c r h = expr_fine e c r h
      expr_fine (row e rs) c r h = all_both (IsFine m w) (code_of g c e) (row_code g c rs) (expr_fine e c r h.0) (row_fine rs c r h.1)

      row_fine : (x : Operands) (c : Scope) → Reaches c → SoundRow g (MayCall g m w) c x → AllOf (IsFine m w) (row_code g c x)
      row_fine no_operands c r h = tt
      row_fine (operand op e rs) c r h = all_both (IsFine m w) (code_of g c e) (op_instr op ∷ row_code g c rs) (expr_fine e c r h.0) (op_fine op, row_fine rs c r h.1)

      pub args_fine : (es : Exprs) (ps : List Param) (c : Scope) → Reaches c → All (ParamFits g) ps → SoundArgs g (MayCall g m w) c es ps → AllOf (IsFine m w) (args_code g c es ps)
      args_fine no_exprs ps c r fit h = tt
      args_fine (exprs e es) [] c r fit h = tt
      args_fine (exprs e es) (p ∷ ps) c r fit h =
          all_both (IsFine m w) (code_of g c e) (range_code (range_of g p.kind) ++ args_code g c es ps) (expr_fine e c r h.0)
          (all_both (IsFine m w) (range_code (range_of g p.kind)) (args_code g c es ps) (range_fine (range_of g p.kind) (scalar_order g p.kind (All-head (ParamFits g) p ps fit)))
          (args_fine es ps c r (All-tail (ParamFits g) p ps fit) h.1))

    -- ---- targets

    pub index_fine : (x : Ref) (c : Scope) → Reaches c → SoundIndex g (MayCall g m w) c x → AllOf (IsFine m w) (index_code g c x)
    index_fine (whole x) c r h = tt
    index_fine (part x e) c r h = expr_fine e c r h

    pub store_code_fine : (x : Ref) (c : Scope) → Reaches c → AllOf (IsFine m w) (store_code g c x)
    store_code_fine (whole x) c r = spot_fine (spot_of g c x) (lies c x r)
    store_code_fine (part x e) c r = store_element_fine (spot_of g c x) (lies c x r)

    pub put_fine : (x : Ref) (c : Scope) → Reaches c → AllOf (IsFine m w) (put_code g c x)
    put_fine x c r =
        all_both (IsFine m w) (range_code (range_of_spot (spot_of g c (ref_name x)))) (store_code g c x)
        (range_fine (range_of_spot (spot_of g c (ref_name x))) (spot_order (spot_of g c (ref_name x)) (lies c (ref_name x) r))) (store_code_fine x c r)

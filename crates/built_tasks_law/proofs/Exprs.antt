-- What the code of expressions calls.
use Rattle.std.specs.Prelude.{◌≡◌, ◌||◌, ◌++◌, ℕ, Bool, false, List, [], ◌∷◌, Option, Some, None, ℤ, pos}
use Rattle.std.proofs.Common.{refl, sym, ap, subst, ◌∙◌}
use Rattle.syntax_tree.specs.Plain.{Name, Param, Op, or, and, equal, unequal, less, less_equal, greater, greater_equal, add, sub, mul, div, remainder, Expr, literal, truth, variable, element, call, minus, negation, paren, row, Exprs, no_exprs, exprs, Operands, no_operands, operand, Ref, whole, part, Program}
use Rattle.source_semantics.specs.Store.{Range, range_of}
use Rattle.machine_isa.specs.declared.instr.Instr.{Instr}
use Rattle.machine_isa.specs.declared.instr.Instr.TheVariants as i
use Rattle.code_spec.specs.Layout.{Shape, single, array, Area, in_frame, in_process, in_monitor, Spot, Scope, spot_of}
use Rattle.code_spec.specs.Numbering.{Text, Called, called_text, expr_calls, exprs_calls, row_calls, ref_calls, number_of, routine_in}
use Rattle.code_spec.specs.Code.{load, load_name, load_shape, load_element, store, store_shape, store_spot, store_element, constant_named, op_instr, range_code, range_of_spot, call_code, code_of, row_code, args_code, index_code, store_code, put_code, ref_name}
use Rattle.code_measures.specs.Sound.{SoundExpr, SoundRow, SoundArgs, SoundIndex}
use Rattle.sched_program.specs.Tasks.{passes_some, some_called}
use Rattle.built_tasks_law.specs.Calls.{by_number}
use Rattle.built_tasks_law.proofs.Tests.{or_last, or_both, called_both, passes, some_in, in_both, in_parts, in_front}

module _ (test : ℕ → Bool) where
  -- ---- instructions that call nothing

  load_calls : (a : Area) (w : ℤ) → passes test (Some (load a w)) ≡ false
  load_calls in_frame w = refl
  load_calls in_process w = refl
  load_calls in_monitor w = refl

  name_calls : (s : Option Spot) (k : Option (Name × ℤ)) → some_in test (load_name s k ∷ []) ≡ false
  name_calls (Some s) k = ap (λ z. z || false) (load_calls s.area (pos s.place.word))
  name_calls None (Some k) = refl
  name_calls None None = refl

  shape_calls : (a : Area) (w : ℕ) (s : Shape) → some_in test (load_shape a w s ∷ []) ≡ false
  shape_calls a w single = refl
  shape_calls in_frame w (array low len) = refl
  shape_calls in_process w (array low len) = refl
  shape_calls in_monitor w (array low len) = refl

  element_calls : (s : Option Spot) → some_in test (load_element s ∷ []) ≡ false
  element_calls None = refl
  element_calls (Some s) = shape_calls s.area s.place.word s.place.shape

  op_calls : (o : Op) → passes test (Some (op_instr o)) ≡ false
  op_calls or = refl
  op_calls and = refl
  op_calls equal = refl
  op_calls unequal = refl
  op_calls less = refl
  op_calls less_equal = refl
  op_calls greater = refl
  op_calls greater_equal = refl
  op_calls add = refl
  op_calls sub = refl
  op_calls mul = refl
  op_calls div = refl
  op_calls remainder = refl

  pub range_calls : (r : Option Range) → some_in test (range_code r) ≡ false
  range_calls None = refl
  range_calls (Some r) = refl

  word_store_calls : (a : Area) (w : ℤ) → some_in test (store a w ∷ []) ≡ false
  word_store_calls in_frame w = refl
  word_store_calls in_process w = refl
  word_store_calls in_monitor w = refl

  spot_store_calls : (s : Option Spot) → some_in test (store_spot s) ≡ false
  spot_store_calls None = refl
  spot_store_calls (Some s) = word_store_calls s.area (pos s.place.word)

  shape_store_calls : (a : Area) (w : ℕ) (s : Shape) → some_in test (store_shape a w s) ≡ false
  shape_store_calls a w single = refl
  shape_store_calls in_frame w (array low len) = refl
  shape_store_calls in_process w (array low len) = refl
  shape_store_calls in_monitor w (array low len) = refl

  element_store_calls : (s : Option Spot) → some_in test (store_element s) ≡ false
  element_store_calls None = refl
  element_store_calls (Some s) = shape_store_calls s.area s.place.word s.place.shape

  pub store_calls : (g : Program) (c : Scope) (r : Ref) → some_in test (store_code g c r) ≡ false
  store_calls g c (whole x) = spot_store_calls (spot_of g c x)
  store_calls g c (part x e) = element_store_calls (spot_of g c x)

  pub put_calls : (g : Program) (c : Scope) (r : Ref) → some_in test (put_code g c r) ≡ false
  put_calls g c r =
      in_front test (range_code (range_of_spot (spot_of g c (ref_name r)))) (store_code g c r) false (range_calls (range_of_spot (spot_of g c (ref_name r)))) (store_calls g c r)

-- ---- expressions

module _ (g : Program) (test : ℕ → Bool) (may : Text → Type 0) (c : Scope) where
  -- one of the calls passes
  abbrev pub Calls : List Called → Bool
  Calls cs = some_called (by_number g test) (called_text g c.owner) cs

  pub call_same : (o : Option Text) (t : Text) (args : List Param → List Instr) (b : Bool) → o ≡ Some t → some_in test (args t.routine.params) ≡ b
      → some_in test (call_code g o args) ≡ passes_some (by_number g test) o || b
  call_same o t args b is e =
      subst (λ y. some_in test (call_code g y args) ≡ passes_some (by_number g test) y || b) (sym is)
      (in_both test (args t.routine.params) (i.Call (pos (number_of g t)) ∷ [])
      ∙ (or_last (some_in test (args t.routine.params)) (test (number_of g t)) ∙ ap (λ z. test (number_of g t) || z) e))

  mutual
    pub expr_same : (e : Expr) → SoundExpr g may c e → some_in test (code_of g c e) ≡ Calls (expr_calls e)
    expr_same (literal n) ok = refl
    expr_same (truth b) ok = refl
    expr_same (variable x) ok = name_calls test (spot_of g c x) (constant_named g x)
    expr_same (element x e) ok = in_front test (code_of g c e) (load_element (spot_of g c x) ∷ []) (Calls (expr_calls e)) (expr_same e ok.0) (element_calls test (spot_of g c x))
    expr_same (call f es) ok = call_same (routine_in g c.owner f) ok.0 (λ ps. args_code g c es ps) (Calls (exprs_calls es)) ok.2 (args_same es ok.0.routine.params ok.5)
    expr_same (minus e) ok = in_front test (code_of g c e) (i.Neg ∷ []) (Calls (expr_calls e)) (expr_same e ok) refl
    expr_same (negation e) ok = in_front test (code_of g c e) (i.Not ∷ []) (Calls (expr_calls e)) (expr_same e ok) refl
    expr_same (paren e) ok = expr_same e ok
    expr_same (row e r) ok =
        in_parts test (code_of g c e) (row_code g c r) (Calls (expr_calls e)) (Calls (row_calls r)) (expr_same e ok.0) (row_same r ok.1)
        ∙ sym (called_both (by_number g test) (called_text g c.owner) (expr_calls e) (row_calls r))

    row_same : (r : Operands) → SoundRow g may c r → some_in test (row_code g c r) ≡ Calls (row_calls r)
    row_same no_operands ok = refl
    row_same (operand op e r) ok =
        in_parts test (code_of g c e) (op_instr op ∷ row_code g c r) (Calls (expr_calls e)) (Calls (row_calls r)) (expr_same e ok.0) (or_both (op_calls test op) (row_same r ok.1))
        ∙ sym (called_both (by_number g test) (called_text g c.owner) (expr_calls e) (row_calls r))

    pub args_same : (es : Exprs) (ps : List Param) → SoundArgs g may c es ps → some_in test (args_code g c es ps) ≡ Calls (exprs_calls es)
    args_same no_exprs ps ok = refl
    args_same (exprs e es) [] ok = absurd ok
    args_same (exprs e es) (p ∷ ps) ok =
        in_parts test (code_of g c e) (range_code (range_of g p.kind) ++ args_code g c es ps) (Calls (expr_calls e)) (Calls (exprs_calls es)) (expr_same e ok.0)
        (in_parts test (range_code (range_of g p.kind)) (args_code g c es ps) false (Calls (exprs_calls es)) (range_calls test (range_of g p.kind)) (args_same es ps ok.1))
        ∙ sym (called_both (by_number g test) (called_text g c.owner) (expr_calls e) (exprs_calls es))

  pub index_same : (r : Ref) → SoundIndex g may c r → some_in test (index_code g c r) ≡ Calls (ref_calls r)
  index_same (whole x) ok = refl
  index_same (part x e) ok = expr_same e ok

-- The code that the generator makes of an expression is that of the expression, and has no exit.
use Rattle.std.proofs.Common.{◌≡◌, ℕ, ℤ, Bool, true, false, pos, List, [], ◌∷◌, ◌++◌, map, Option, Some, None, option_map, refl, sym, ap, ◌∙◌, append_assoc, append-nil}
use Rattle.std.proofs.lemmas.List.{map-append}
use Rattle.syntax_tree.specs.Plain.{Name, Param, Op, or, and, equal, unequal, less, less_equal, greater, greater_equal, add, sub, mul, div, remainder, Expr, literal, truth, variable, element, call, minus, negation, paren, row, Exprs, no_exprs, exprs, Operands, no_operands, operand, Program}
use Rattle.base.specs.Words.{of_bool}
use Rattle.machine_isa.specs.declared.instr.Instr.{Instr}
use Rattle.machine_isa.specs.declared.instr.Instr.TheVariants as i
use Rattle.code_spec.specs.Layout.{Area, in_frame, in_process, in_monitor, Shape, single, array, Spot, Scope, spot_of}
use Rattle.source_semantics.specs.Store.{Range, range_of}
use Rattle.code_spec.specs.Numbering.{Text, routine_in, number_of}
use Rattle.code_spec.specs.Code.{load, load_name, load_shape, load_element, op_instr, constant_named, range_code, call_code, code_of, row_code, args_code}
use Rattle.codegen_spec.specs.declared.var_location.ValueRange.{ValueRange as Range_told}
use Rattle.codegen_spec.specs.Told.{fit, told_area, told_range, told_shape, told_spot, range_told, told_callee, value_told}
use Rattle.codegen_spec.specs.Made.{Out, push, aimed, load_from, load_told, load_at_from, load_at_told, range_out, called, call_out, expr_out, row_out, args_out}
use Rattle.codegen_law.specs.MadeRightFits.{Fit, ShapeFits, RangeFits, SpotFits, CallFits, ExprFits, RowFits, ArgsFit}

-- no exit is open in this code
abbrev pub Still : List Instr → Type 0
Still js = (t : ℤ) → map (aimed t) js ≡ js

pub still_more : (xs ys : List Instr) → Still xs → Still ys → Still (xs ++ ys)
still_more xs ys a b t = map-append (aimed t) xs ys ∙ ap (λ k. k ++ map (aimed t) ys) (a t) ∙ ap (λ k. xs ++ k) (b t)

-- the same names, and exits go here
abbrev pub aiming : Scope → Option ℕ → Scope
aiming c y = record c { exit = y }

loaded : (a : Area) (v w : ℤ) → v ≡ w → load_from (told_area a) v ≡ load a w
loaded in_frame v w e = ap (λ z. i.LoadLocal z) e
loaded in_process v w e = ap (λ z. i.LoadOwn z) e
loaded in_monitor v w e = ap (λ z. i.LoadMon z) e

name_loaded : (s : Option Spot) (k : Option (Name × ℤ)) → SpotFits s → Fit (value_told k) → load_told (told_spot s) (fit (value_told k)) ≡ load_name s k
name_loaded (Some s) k h f = loaded s.area (fit (pos s.place.word)) (pos s.place.word) h.0
name_loaded None (Some k) h f = ap (λ z. i.Push z) f
name_loaded None None h f = ap (λ z. i.Push z) f

loaded_at : (a : Area) (w : ℕ) (sh : Shape) → Fit (pos w) → ShapeFits sh → load_at_from (told_area a) (fit (pos w)) (told_shape sh) ≡ load_shape a w sh
loaded_at a w single h f = refl
loaded_at in_frame w (array low len) h f = ap (λ z. i.LoadLocalAt z (fit low) (fit (pos len))) h ∙ ap (λ z. i.LoadLocalAt (pos w) z (fit (pos len))) f.0 ∙ ap (λ z. i.LoadLocalAt (pos w) low z) f.1
loaded_at in_process w (array low len) h f = ap (λ z. i.LoadOwnAt z (fit low) (fit (pos len))) h ∙ ap (λ z. i.LoadOwnAt (pos w) z (fit (pos len))) f.0 ∙ ap (λ z. i.LoadOwnAt (pos w) low z) f.1
loaded_at in_monitor w (array low len) h f = ap (λ z. i.LoadMonAt z (fit low) (fit (pos len))) h ∙ ap (λ z. i.LoadMonAt (pos w) z (fit (pos len))) f.0 ∙ ap (λ z. i.LoadMonAt (pos w) low z) f.1

element_loaded : (s : Option Spot) → SpotFits s → load_at_told (told_spot s) ≡ load_element s
element_loaded None h = refl
element_loaded (Some s) h = loaded_at s.area s.place.word s.place.shape h.0 h.1

still_area : (a : Area) (w : ℤ) → Still (load a w ∷ [])
still_area in_frame w t = refl
still_area in_process w t = refl
still_area in_monitor w t = refl

still_name : (s : Option Spot) (k : Option (Name × ℤ)) → Still (load_name s k ∷ [])
still_name (Some s) k t = still_area s.area (pos s.place.word) t
still_name None (Some k) t = refl
still_name None None t = refl

still_shape : (a : Area) (w : ℕ) (sh : Shape) → Still (load_shape a w sh ∷ [])
still_shape a w single t = refl
still_shape in_frame w (array low len) t = refl
still_shape in_process w (array low len) t = refl
still_shape in_monitor w (array low len) t = refl

still_element : (s : Option Spot) → Still (load_element s ∷ [])
still_element None t = refl
still_element (Some s) t = still_shape s.area s.place.word s.place.shape t

still_op : (op : Op) → Still (op_instr op ∷ [])
still_op or t = refl
still_op and t = refl
still_op equal t = refl
still_op unequal t = refl
still_op less t = refl
still_op less_equal t = refl
still_op greater t = refl
still_op greater_equal t = refl
still_op add t = refl
still_op sub t = refl
still_op mul t = refl
still_op div t = refl
still_op remainder t = refl

-- A part with no exit: it appends this code, wherever it stands, and that is the code of the text, wherever exits go.
pub record LineMade (out : Out → Out) (text : Option ℕ → List Instr) : Type 0 where
  pub code : List Instr
  pub made : (o : Out) → (out o).code ≡ o.code ++ code
  pub word : (o : Out) → (out o).word ≡ o.word
  pub still : Still code
  pub emits : (y : Option ℕ) → text y ≡ code

pub none_made : LineMade (λ o. o) (λ y. [])
none_made = record { code = []; made = λ o. sym (append-nil o.code); word = λ o. refl; still = λ t. refl; emits = λ y. refl }

pub one_made : (j : Out → Instr) (k : Instr) → ((o : Out) → j o ≡ k) → Still (k ∷ []) → LineMade (λ o. push o (j o)) (λ y. k ∷ [])
one_made j k same still = record { code = k ∷ []; made = λ o. ap (λ z. o.code ++ z ∷ []) (same o); word = λ o. refl; still = still; emits = λ y. refl }

-- one part after another
pub both_made : (f h : Out → Out) (a b : Option ℕ → List Instr) → LineMade f a → LineMade h b → LineMade (λ o. h (f o)) (λ y. a y ++ b y)
both_made f h a b m n = record {
  code = m.code ++ n.code;
  made = λ o. n.made (f o) ∙ ap (λ k. k ++ n.code) (m.made o) ∙ append_assoc o.code m.code n.code;
  word = λ o. n.word (f o) ∙ m.word o;
  still = still_more m.code n.code m.still n.still;
  emits = λ y. ap (λ k. k ++ b y) (m.emits y) ∙ ap (λ k. m.code ++ k) (n.emits y);
}

-- the check of a range
pub range_made : (r : Option Range) → RangeFits r → LineMade (range_out (option_map told_range r)) (λ y. range_code r)
range_made None h = none_made
range_made (Some r) h = one_made (λ o. i.Range (fit r.low) (fit r.high)) (i.Range r.low r.high) (λ o. ap (λ z. i.Range z (fit r.high)) h.0 ∙ ap (λ z. i.Range r.low z) h.1) (λ t. refl)

called_made : (n : ℕ) → Fit (pos n) → LineMade (called n) (λ y. i.Call (pos n) ∷ [])
called_made n h = record { code = i.Call (pos n) ∷ []; made = λ o. ap (λ z. o.code ++ i.Call z ∷ []) h; word = λ o. refl; still = λ t. refl; emits = λ y. refl }

-- a call of what it names, if it names a routine
pub call_made : (g : Program) (t : Option Text) (args : List (Option Range_told) → Out → Out) (text : Option ℕ → List Param → List Instr) (Fits : List Param → Type 0)
    → CallFits g t Fits → ((ps : List Param) → Fits ps → LineMade (λ o. args (map (λ p. range_told g p.kind) ps) o) (λ y. text y ps))
    → LineMade (λ o. call_out (told_callee g t) (λ rs. args rs o) o) (λ y. call_code g t (λ ps. text y ps))
call_made g None args text Fits h m = none_made
call_made g (Some t) args text Fits h m =
    both_made (λ o. args (map (λ p. range_told g p.kind) t.routine.params) o) (called (number_of g t)) (λ y. text y t.routine.params) (λ y. i.Call (pos (number_of g t)) ∷ []) (m t.routine.params h.1) (called_made (number_of g t) h.0)

-- what is made of an expression
abbrev pub ExprMade : Program → Scope → Expr → Type 0
ExprMade g c e = LineMade (expr_out g c e) (λ y. code_of g (aiming c y) e)

-- one instruction that follows an expression
followed : (g : Program) (c : Scope) (e : Expr) (j k : Instr) → ExprMade g c e → j ≡ k → Still (k ∷ []) → LineMade (λ o. push (expr_out g c e o) j) (λ y. code_of g (aiming c y) e ++ k ∷ [])
followed g c e j k m same still = both_made (expr_out g c e) (λ o. push o j) (λ y. code_of g (aiming c y) e) (λ y. k ∷ []) m (one_made (λ o. j) k (λ o. same) still)

mutual
  pub expr_made : (g : Program) (c : Scope) (e : Expr) → ExprFits g c e → ExprMade g c e
  expr_made g c (literal n) h = one_made (λ o. i.Push (fit (pos n))) (i.Push (pos n)) (λ o. ap (λ z. i.Push z) h) (λ t. refl)
  expr_made g c (truth b) h = one_made (λ o. i.Push (of_bool b)) (i.Push (of_bool b)) (λ o. refl) (λ t. refl)
  expr_made g c (variable x) h =
      one_made (λ o. load_told (told_spot (spot_of g c x)) (fit (value_told (constant_named g x)))) (load_name (spot_of g c x) (constant_named g x))
      (λ o. name_loaded (spot_of g c x) (constant_named g x) h.0 h.1) (still_name (spot_of g c x) (constant_named g x))
  expr_made g c (element x e) h =
      followed g c e (load_at_told (told_spot (spot_of g c x))) (load_element (spot_of g c x)) (expr_made g c e h.1) (element_loaded (spot_of g c x) h.0) (still_element (spot_of g c x))
  expr_made g c (call f es) h =
      call_made g (routine_in g c.owner f) (λ rs o. args_out g c es rs o) (λ y ps. args_code g (aiming c y) es ps) (λ ps. ArgsFit g c es ps) h (λ ps k. args_made g c es ps k)
  expr_made g c (minus e) h = followed g c e i.Neg i.Neg (expr_made g c e h) refl (λ t. refl)
  expr_made g c (negation e) h = followed g c e i.Not i.Not (expr_made g c e h) refl (λ t. refl)
  expr_made g c (paren e) h = expr_made g c e h
  expr_made g c (row e r) h = both_made (expr_out g c e) (row_out g c r) (λ y. code_of g (aiming c y) e) (λ y. row_code g (aiming c y) r) (expr_made g c e h.0) (row_made g c r h.1)

  row_made : (g : Program) (c : Scope) (r : Operands) → RowFits g c r → LineMade (row_out g c r) (λ y. row_code g (aiming c y) r)
  row_made g c no_operands h = none_made
  row_made g c (operand op e r) h =
      both_made (expr_out g c e) (λ o. row_out g c r (push o (op_instr op))) (λ y. code_of g (aiming c y) e) (λ y. op_instr op ∷ row_code g (aiming c y) r) (expr_made g c e h.0)
      (both_made (λ o. push o (op_instr op)) (row_out g c r) (λ y. op_instr op ∷ []) (λ y. row_code g (aiming c y) r) (one_made (λ o. op_instr op) (op_instr op) (λ o. refl) (still_op op)) (row_made g c r h.1))

  pub args_made : (g : Program) (c : Scope) (es : Exprs) (ps : List Param) → ArgsFit g c es ps → LineMade (λ o. args_out g c es (map (λ p. range_told g p.kind) ps) o) (λ y. args_code g (aiming c y) es ps)
  args_made g c no_exprs ps h = none_made
  args_made g c (exprs e es) [] h = none_made
  args_made g c (exprs e es) (p ∷ ps) h =
      both_made (expr_out g c e) (λ o. args_out g c es (map (λ q. range_told g q.kind) ps) (range_out (range_told g p.kind) o)) (λ y. code_of g (aiming c y) e) (λ y. range_code (range_of g p.kind) ++ args_code g (aiming c y) es ps) (expr_made g c e h.0)
      (both_made (range_out (range_told g p.kind)) (λ o. args_out g c es (map (λ q. range_told g q.kind) ps) o) (λ y. range_code (range_of g p.kind)) (λ y. args_code g (aiming c y) es ps) (range_made (range_of g p.kind) h.1) (args_made g c es ps h.2))

-- ---- exits of the loop around, if there is one

abbrev pub Exits : Bool → Type 0
Exits true = ℕ
Exits false = Unit {0}

abbrev pub exit_of : (b : Bool) → Exits b → Option ℕ
exit_of true y = Some y
exit_of false y = None

abbrev pub to_of : (b : Bool) → Exits b → ℤ
to_of true y = pos y
to_of false y = pos 0

-- no loop is around
abbrev pub Outside : Bool → Type 0
Outside true = ⊥
Outside false = Unit {0}

-- The measure of expressions.
use Rattle.std.proofs.Common.{◌≡◌, ◌≤◌, ◌+◌, ℕ, List, [], ◌∷◌, ◌++◌, length, map, Option, Some, None, option_map, slice_get, refl, ap, sym, subst, ◌∙◌, arith, max, append_assoc, length-append}
use Rattle.syntax_tree.specs.Plain.{Name, Op, or, and, equal, unequal, less, less_equal, greater, greater_equal, add, sub, mul, div, remainder, Param, Expr, literal, truth, variable, element, call, minus, negation, paren, row, Exprs, no_exprs, exprs, Operands, no_operands, operand, Program}
use Rattle.base.specs.Capped.{cap}
use Rattle.base.specs.declared.capped.Cost.{Cost}
use Rattle.machine_isa.specs.Ticks.{ticks}
use Rattle.source_semantics.specs.Store as store
use Rattle.source_semantics.specs.Store.{range_of}
use Rattle.code_spec.specs.Layout as layout
use Rattle.code_spec.specs.Layout.{Spot, Scope, spot_of, place_named, in_area, in_frame, in_process, in_monitor, outer_spot, routine_words}
use Rattle.code_spec.specs.Code.{op_instr}
use Rattle.code_spec.specs.Numbering.{Text, routine_in, number_of}
use Rattle.source_semantics.specs.Run.{or_else}
use Rattle.valid_image.specs.Found.{amount, plus, longer}
use Rattle.code_cost_spec.specs.Names.{Calls, Names, view_of}
use Rattle.code_cost_spec.specs.Costs.{run, check_ticks, load_ticks, element_ticks, expr_cost, row_cost, args_cost, call_cost}
use Rattle.code_cost_spec.specs.Heights.{expr_height, row_height, args_height, call_height}
use Rattle.code_cost_spec.specs.Lengths.{check_length, expr_length, row_length, args_length, call_length}
use Rattle.code_measures.specs.Sound.{SoundExpr, SoundRow, SoundArgs}
use Rattle.code_measures.proofs.Seen.{Sees}
use Rattle.codegen_spec.specs.declared.var_location.ValueRange.{ValueRange}
use Rattle.codegen_spec.specs.Told.{told_spot, told_range, range_told, told_callee}
use Rattle.code_cost.specs.declared.measure.RoutineMeasure.{RoutineMeasure}
use Rattle.code_cost.specs.Sums.{held, joined, above, called, of, nothing, row_at}
use Rattle.code_cost.specs.Forms.{load_time, element_time, check, argument, call_size, expr_size, row_size, args_size}
use Rattle.code_measures.specs.MeasuredTexts.{measured, IsRow}
use Rattle.code_measures.proofs.Sums.{same, joined_is, above_is, called_is, of_is, measured_same}

-- ---- scopes with the same names

-- where exits go, and how many words the frame has, is no matter
pub record Alike (d c : Scope) : Type 0 where
  pub own : d.own ≡ c.own
  pub owner : d.owner ≡ c.owner

pub alike_spot : (g : Program) (d c : Scope) (x : Name) → Alike d c → spot_of g d x ≡ spot_of g c x
alike_spot g d c x s = ap (λ ps. or_else (in_area in_frame (place_named x ps)) (outer_spot g d.owner x)) s.own ∙ ap (λ o. or_else (in_area in_frame (place_named x c.own)) (outer_spot g o x)) s.owner

-- ---- single instructions

load_is : (s : Option Spot) → load_time (told_spot s) ≡ load_ticks (option_map view_of s)
load_is None = refl
load_is (Some s) = by_area s.area
  where
    by_area : (a : layout.Area) → load_time (told_spot (Some (record s { area = a }))) ≡ load_ticks (option_map view_of (Some (record s { area = a })))
    by_area in_frame = refl
    by_area in_process = refl
    by_area in_monitor = refl

load_few : (s : Option Spot) → load_ticks (option_map view_of s) ≤ 100
load_few None = omega arith
load_few (Some s) = by_area s.area
  where
    by_area : (a : layout.Area) → load_ticks (option_map view_of (Some (record s { area = a }))) ≤ 100
    by_area in_frame = omega arith
    by_area in_process = omega arith
    by_area in_monitor = omega arith

element_is : (s : Option Spot) → element_time (told_spot s) ≡ element_ticks (option_map view_of s)
element_is None = refl
element_is (Some s) = by_area s.area
  where
    by_area : (a : layout.Area) → element_time (told_spot (Some (record s { area = a }))) ≡ element_ticks (option_map view_of (Some (record s { area = a })))
    by_area in_frame = refl
    by_area in_process = refl
    by_area in_monitor = refl

element_few : (s : Option Spot) → element_ticks (option_map view_of s) ≤ 100
element_few None = omega arith
element_few (Some s) = by_area s.area
  where
    by_area : (a : layout.Area) → element_ticks (option_map view_of (Some (record s { area = a }))) ≤ 100
    by_area in_frame = omega arith
    by_area in_process = omega arith
    by_area in_monitor = omega arith

op_few : (op : Op) → ticks (op_instr op) ≤ 100
op_few or = omega arith
op_few and = omega arith
op_few equal = omega arith
op_few unequal = omega arith
op_few less = omega arith
op_few less_equal = omega arith
op_few greater = omega arith
op_few greater_equal = omega arith
op_few add = omega arith
op_few sub = omega arith
op_few mul = omega arith
op_few div = omega arith
op_few remainder = omega arith

pub check_is : (r : Option store.Range) → check (option_map told_range r) ≡ measured (run (check_ticks r)) 0 (check_length r)
check_is None = same (omega arith) (omega arith) (omega arith) (omega arith) (omega arith)
check_is (Some r) = same (omega arith) (omega arith) (omega arith) (omega arith) (omega arith)

-- ---- a call

pub row_tells : (g : Program) (rows : List RoutineMeasure) (k : Calls) (t : Text) (c : Cost) (h n : ℕ) → IsRow g rows k t
    → called (row_at rows (number_of g t)) (measured c h n) ≡ measured (plus c (longer 6 (k.cost t))) (max h (2 + routine_words g t.routine + k.height t)) (n + 1)
row_tells g rows k t c h n is =
    rows_same (row_at rows (number_of g t)) is.run is.susp is.waits is.height is.words ∙ called_is (k.cost t) (row_at rows (number_of g t)).stay (k.height t) (routine_words g t.routine) (row_at rows (number_of g t)).length c h n
  where
    rows_same : (r : RoutineMeasure) → r.cost.run ≡ cap (k.cost t).run → r.cost.susp ≡ cap (k.cost t).susp → r.cost.waits ≡ cap (k.cost t).waits → r.height ≡ held (k.height t) → r.words ≡ held (routine_words g t.routine)
        → called r (measured c h n) ≡ called (record { cost = amount (cap (k.cost t).run) (cap (k.cost t).susp) (cap (k.cost t).waits); stay = r.stay; height = held (k.height t); words = held (routine_words g t.routine); length = r.length }) (measured c h n)
    rows_same r a b e f w =
        same (ap (λ x. cap (cap c.run + cap (6 + x))) a) (ap (λ x. cap (cap c.susp + cap (0 + x))) b) (ap (λ x. cap (cap c.waits + cap (0 + x))) e)
        (ap (λ x. max (held h) (held (held (2 + x) + r.height))) w ∙ ap (λ x. max (held h) (held (held (2 + held (routine_words g t.routine)) + x))) f) refl

-- ---- expressions

module _ (g : Program) (rows : List RoutineMeasure) (k : Calls) where
  abbrev pub ExprIs : (d : Scope) (n : Names) → Expr → Type 0
  ExprIs d n e = expr_size g d rows e ≡ measured (expr_cost g n k e) (expr_height g n.owner k e) (expr_length g n.owner e)

  pub high : (c : Scope) (n : Names) (e : Expr) → Sees g c n → SoundExpr g (λ t. IsRow g rows k t) c e → 1 ≤ expr_height g n.owner k e
  high c n (literal v) s ok = omega arith
  high c n (truth b) s ok = omega arith
  high c n (variable x) s ok = omega arith
  high c n (element x e) s ok = high c n e s ok.0
  high c n (call f es) s ok = subst (λ o. 1 ≤ call_height g k o (args_height g n.owner k es)) (sym (subst (λ o. routine_in g o f ≡ Some ok.0) s.owner ok.2)) (omega arith)
  high c n (minus e) s ok = high c n e s ok
  high c n (negation e) s ok = high c n e s ok
  high c n (paren e) s ok = high c n e s ok
  high c n (row e r) s ok = let h = high c n e s ok.0 in omega (arith, h)

  -- an argument, which stands above as many as stand before it
  argument_is : (front : ℕ) (c e : Cost) (h j n m : ℕ) (r : Option store.Range) → argument front (measured c h n) (Some (option_map told_range r)) (measured e j m)
      ≡ measured (plus c (plus e (run (check_ticks r)))) (max h (front + j)) (n + (m + check_length r))
  argument_is front c e h j n m r =
      ap (λ x. joined (measured c h n) (joined x (check (option_map told_range r)))) (above_is front e j m)
      ∙ ap (λ x. joined (measured c h n) (joined (measured e (front + j) m) x)) (check_is r)
      ∙ ap (λ x. joined (measured c h n) x) (joined_is e (run (check_ticks r)) (front + j) 0 m (check_length r))
      ∙ joined_is c (plus e (run (check_ticks r))) h (max (front + j) 0) n (m + check_length r)
      ∙ measured_same _ _ _ _ _ _ refl refl refl (omega arith) refl

  third : (front back : List (Option ValueRange)) (r : Option ValueRange) → slice_get (front ++ r ∷ back) (length front) ≡ Some r
  third [] back r = refl
  third (x ∷ front) back r = third front back r

  -- an expression and one instruction more
  pub one_more : (d : Scope) (n : Names) (e : Expr) (t l : ℕ) → ExprIs d n e → t ≤ 100 → l ≤ 100
      → joined (expr_size g d rows e) (of t 0 l) ≡ measured (plus (expr_cost g n k e) (run t)) (expr_height g n.owner k e) (expr_length g n.owner e + l)
  one_more d n e t l is few short =
      ap (λ y. joined y (of t 0 l)) is
      ∙ ap (λ y. joined (measured (expr_cost g n k e) (expr_height g n.owner k e) (expr_length g n.owner e)) y) (of_is t 0 l few (omega arith) short)
      ∙ joined_is (expr_cost g n k e) (run t) (expr_height g n.owner k e) 0 (expr_length g n.owner e) l
      ∙ measured_same _ _ _ _ _ _ refl refl refl (omega arith) refl

  -- the arguments of a call are measured
  abbrev pub ArgsAre : (d : Scope) (n : Names) (before : Cost) (h m : ℕ) → Exprs → List Param → List (Option ValueRange) → Type 0
  ArgsAre d n before h m es ps front =
      args_size g d rows (length front) (measured before h m) es (front ++ map (λ p. range_told g p.kind) ps)
      ≡ measured (plus before (args_cost g n k es ps)) (max h (length front + args_height g n.owner k es)) (m + args_length g n.owner es ps)

  call_with : (d : Scope) (n : Names) (t : Text) (es : Exprs) → IsRow g rows k t → ArgsAre d n (run 0) 0 0 es t.routine.params []
      → call_size rows (told_callee g (Some t)) (λ rs. args_size g d rows 0 nothing es rs)
      ≡ measured (call_cost k (Some t) (λ ps. args_cost g n k es ps)) (call_height g k (Some t) (args_height g n.owner k es)) (call_length (Some t) (λ ps. args_length g n.owner es ps))
  call_with d n t es is args =
      ap (λ y. called (row_at rows (number_of g t)) y) (ap (λ y. args_size g d rows 0 y es (map (λ p. range_told g p.kind) t.routine.params)) none ∙ args)
      ∙ row_tells g rows k t (plus (run 0) (args_cost g n k es t.routine.params)) (max 0 (0 + args_height g n.owner k es)) (0 + args_length g n.owner es t.routine.params) is
      ∙ measured_same _ _ _ _ _ _ (omega arith) (omega arith) (omega arith) (omega arith) (omega arith)
    where
      none : nothing ≡ measured (run 0) 0 0
      none = same (omega arith) (omega arith) (omega arith) (omega arith) (omega arith)

  -- the call of what a name means
  pub named_call : (d : Scope) (n : Names) (o : Option Text) (t : Text) (es : Exprs) → o ≡ Some t → IsRow g rows k t → ArgsAre d n (run 0) 0 0 es t.routine.params []
      → call_size rows (told_callee g o) (λ rs. args_size g d rows 0 nothing es rs)
      ≡ measured (call_cost k o (λ ps. args_cost g n k es ps)) (call_height g k o (args_height g n.owner k es)) (call_length o (λ ps. args_length g n.owner es ps))
  named_call d n o t es named is args =
      ap (λ o. call_size rows (told_callee g o) (λ rs. args_size g d rows 0 nothing es rs)) named
      ∙ call_with d n t es is args
      ∙ sym (ap (λ o. measured (call_cost k o (λ ps. args_cost g n k es ps)) (call_height g k o (args_height g n.owner k es)) (call_length o (λ ps. args_length g n.owner es ps))) named)

  mutual
    pub expr_is : (d c : Scope) (n : Names) (e : Expr) → Alike d c → Sees g c n → SoundExpr g (λ t. IsRow g rows k t) c e → ExprIs d n e
    expr_is d c n (literal v) a s ok = of_is 1 1 1 (omega arith) (omega arith) (omega arith)
    expr_is d c n (truth b) a s ok = of_is 1 1 1 (omega arith) (omega arith) (omega arith)
    expr_is d c n (variable x) a s ok =
        ap (λ o. of (load_time (told_spot o)) 1 1) (alike_spot g d c x a) ∙ ap (λ t. of t 1 1) (load_is (spot_of g c x))
        ∙ of_is (load_ticks (option_map view_of (spot_of g c x))) 1 1 (load_few (spot_of g c x)) (omega arith) (omega arith)
        ∙ ap (λ v. measured (run (load_ticks v)) 1 1) (s.view x)
    expr_is d c n (element x e) a s ok =
        ap (λ y. joined y (of (element_time (told_spot (spot_of g d x))) 0 1)) (expr_is d c n e a s ok.0)
        ∙ ap (λ o. joined (measured (expr_cost g n k e) (expr_height g n.owner k e) (expr_length g n.owner e)) (of (element_time (told_spot o)) 0 1)) (alike_spot g d c x a)
        ∙ ap (λ t. joined (measured (expr_cost g n k e) (expr_height g n.owner k e) (expr_length g n.owner e)) (of t 0 1)) (element_is (spot_of g c x))
        ∙ ap (λ y. joined (measured (expr_cost g n k e) (expr_height g n.owner k e) (expr_length g n.owner e)) y) (of_is (element_ticks (option_map view_of (spot_of g c x))) 0 1 (element_few (spot_of g c x)) (omega arith) (omega arith))
        ∙ joined_is (expr_cost g n k e) (run (element_ticks (option_map view_of (spot_of g c x)))) (expr_height g n.owner k e) 0 (expr_length g n.owner e) 1
        ∙ ap (λ v. measured (plus (expr_cost g n k e) (run (element_ticks v))) (max (expr_height g n.owner k e) 0) (expr_length g n.owner e + 1)) (s.view x)
        ∙ measured_same _ _ _ _ _ _ refl refl refl (omega arith) refl
    expr_is d c n (call f es) a s ok =
        ap (λ o. call_size rows (told_callee g (routine_in g o f)) (λ rs. args_size g d rows 0 nothing es rs)) (a.owner ∙ s.owner)
        ∙ named_call d n (routine_in g n.owner f) ok.0 es (subst (λ o. routine_in g o f ≡ Some ok.0) s.owner ok.2) ok.3 (let u = ok.0 in args_is d c n (run 0) 0 0 es u.routine.params [] a s ok.5 (omega arith))
    expr_is d c n (minus e) a s ok = one_more d n e 2 1 (expr_is d c n e a s ok) (omega arith) (omega arith)
    expr_is d c n (negation e) a s ok = one_more d n e 1 1 (expr_is d c n e a s ok) (omega arith) (omega arith)
    expr_is d c n (paren e) a s ok = expr_is d c n e a s ok
    expr_is d c n (row e r) a s ok =
        ap (λ y. row_size g d rows y r) (expr_is d c n e a s ok.0)
        ∙ row_is d c n (expr_cost g n k e) (expr_height g n.owner k e) (expr_length g n.owner e) r a s ok.1

    row_is : (d c : Scope) (n : Names) (before : Cost) (h m : ℕ) (r : Operands) → Alike d c → Sees g c n → SoundRow g (λ t. IsRow g rows k t) c r
        → row_size g d rows (measured before h m) r ≡ measured (plus before (row_cost g n k r)) (max h (row_height g n.owner k r)) (m + row_length g n.owner r)
    row_is d c n before h m no_operands a s ok = measured_same _ _ _ _ _ _ (omega arith) (omega arith) (omega arith) (omega arith) (omega arith)
    row_is d c n before h m (operand op e r) a s ok =
        let x = expr_cost g n k e in
        let j = expr_height g n.owner k e in
        let l = expr_length g n.owner e in
        let t = ticks (op_instr op) in
        ap (λ y. row_size g d rows (joined (measured before h m) (joined (above 1 y) (of t 0 1))) r) (expr_is d c n e a s ok.0)
        ∙ ap (λ y. row_size g d rows (joined (measured before h m) (joined y (of t 0 1))) r) (above_is 1 x j l)
        ∙ ap (λ y. row_size g d rows (joined (measured before h m) (joined (measured x (1 + j) l) y)) r) (of_is t 0 1 (op_few op) (omega arith) (omega arith))
        ∙ ap (λ y. row_size g d rows (joined (measured before h m) y) r) (joined_is x (run t) (1 + j) 0 l 1)
        ∙ ap (λ y. row_size g d rows y r) (joined_is before (plus x (run t)) h (max (1 + j) 0) m (l + 1))
        ∙ row_is d c n (plus before (plus x (run t))) (max h (max (1 + j) 0)) (m + (l + 1)) r a s ok.1
        ∙ measured_same _ _ _ _ _ _ (omega arith) (omega arith) (omega arith) (omega arith) (omega arith)

    pub args_is : (d c : Scope) (n : Names) (before : Cost) (h m : ℕ) (es : Exprs) (ps : List Param) (front : List (Option ValueRange)) → Alike d c → Sees g c n → SoundArgs g (λ t. IsRow g rows k t) c es ps
        → length front ≤ h
        → args_size g d rows (length front) (measured before h m) es (front ++ map (λ p. range_told g p.kind) ps)
        ≡ measured (plus before (args_cost g n k es ps)) (max h (length front + args_height g n.owner k es)) (m + args_length g n.owner es ps)
    args_is d c n before h m no_exprs [] front a s ok room = measured_same _ _ _ _ _ _ (omega arith) (omega arith) (omega arith) (omega (arith, room)) (omega arith)
    args_is d c n before h m no_exprs (p ∷ ps) front a s ok room = absurd ok
    args_is d c n before h m (exprs e es) [] front a s ok room = absurd ok
    args_is d c n before h m (exprs e es) (p ∷ ps) front a s ok room =
        let x = expr_cost g n k e in
        let j = expr_height g n.owner k e in
        let l = expr_length g n.owner e in
        let rs = map (λ p. range_told g p.kind) ps in
        let r = range_of g p.kind in
        let deep : 1 ≤ j = high c n e s ok.0 in
        let longer_front : length (front ++ range_told g p.kind ∷ []) ≡ length front + 1 = length-append front (range_told g p.kind ∷ []) in
        ap (λ o. args_size g d rows (length front + 1) (argument (length front) (measured before h m) o (expr_size g d rows e)) es (front ++ range_told g p.kind ∷ rs)) (third front rs (range_told g p.kind))
        ∙ ap (λ y. args_size g d rows (length front + 1) (argument (length front) (measured before h m) (Some (range_told g p.kind)) y) es (front ++ range_told g p.kind ∷ rs)) (expr_is d c n e a s ok.0)
        ∙ ap (λ y. args_size g d rows (length front + 1) y es (front ++ range_told g p.kind ∷ rs)) (argument_is (length front) before x h j m l r)
        ∙ ap (λ y. args_size g d rows y (measured (plus before (plus x (run (check_ticks r)))) (max h (length front + j)) (m + (l + check_length r))) es (front ++ range_told g p.kind ∷ rs)) (sym longer_front)
        ∙ ap (λ y. args_size g d rows (length (front ++ range_told g p.kind ∷ [])) (measured (plus before (plus x (run (check_ticks r)))) (max h (length front + j)) (m + (l + check_length r))) es y) (sym (append_assoc front (range_told g p.kind ∷ []) rs))
        ∙ args_is d c n (plus before (plus x (run (check_ticks r)))) (max h (length front + j)) (m + (l + check_length r)) es ps (front ++ range_told g p.kind ∷ []) a s ok.1 (omega (arith, longer_front, deep, room))
        ∙ ap (λ y. measured (plus (plus before (plus x (run (check_ticks r)))) (args_cost g n k es ps)) (max (max h (length front + j)) (y + args_height g n.owner k es)) (m + (l + check_length r) + args_length g n.owner es ps)) longer_front
        ∙ measured_same _ _ _ _ _ _ (omega arith) (omega arith) (omega arith) (omega (arith, deep)) (omega arith)

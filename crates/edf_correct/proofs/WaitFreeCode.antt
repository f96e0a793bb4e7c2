-- The code of a program of which no statement waits has no WAIT.
use Rattle.std.proofs.Common.{◌≡◌, ◌<◌, ◌+◌, ◌∙◌, inl, inr, ℕ, suc, true, false, List, [], ◌∷◌, ◌++◌, length, Option, Some, None, refl, sym, arith}
use Rattle.std.specs.Prelude.{ℤ, pos, slice_get}
use Rattle.std.proofs.lemmas.Bool.{cases_lt}
use Rattle.std.proofs.lemmas.Option.{slice_get_within}
use Rattle.syntax_tree.specs.Plain.{Name, Param, Op, or, and, equal, unequal, less, less_equal, greater, greater_equal, add, sub, mul, div, remainder, Expr, literal, truth, variable, element, call, minus, negation, paren, row, Exprs, no_exprs, exprs, Operands, no_operands, operand, Ref, whole, part, Stmt, assign, assign_entry, assign_empty, perform, perform_entry, when, when_else, loop, exit_when, get, put, wait, signal, broadcast, except, assert, Stmts, no_stmts, stmts, Answers, Routine, Handler, Process, Program}
use Rattle.source_semantics.specs.Names.{device_number, routines, processes}
use Rattle.source_semantics.specs.Store.{Range, range_of}
use Rattle.machine_isa.specs.declared.instr.Instr.{Instr}
use Rattle.machine_isa.specs.declared.instr.Instr.TheVariants as i
use Rattle.machine_semantics.specs.Image as image
use Rattle.code_spec.specs.Layout.{Owner, by_program, by_process, by_monitor, Shape, single, array, Area, in_frame, in_process, in_monitor, Spot, Scope, spot_of, loops_in, loops, routine_vars_words}
use Rattle.code_spec.specs.Numbering.{Text, routine_in, entry_in, number_of, numbered}
use Rattle.code_spec.specs.Code.{load, load_at, store, store_at, op_instr, load_name, load_shape, load_element, constant_named, range_code, range_of_spot, call_code, code_of, row_code, args_code, store_spot, store_shape, store_element, index_code, store_code, put_code, ref_name}
use Rattle.code_spec.specs.Emits.{inner, condition_of}
use Rattle.code_spec.specs.Compiled.{routine_scope, process_scope, enter_code, EmitsRoutines, EmitsProcesses, IsCodeOf}
use Rattle.codegen_law.proofs.NameNumbers.{found_there}
use Rattle.codegen_law.proofs.NumberedLemmas.{listed_text}
use Rattle.codegen_law.proofs.Owners.{Listed, of_the_program, of_a_process, of_a_monitor, is_listed}
use Rattle.code_measures.specs.Quiet.{NoWait, NoWaits}
use Rattle.built_image_law.specs.Ready.{IsReady}
use Rattle.built_valid_law.specs.Has.{AllOf, EachBranch, StmtHas, StmtsHave, EndHas, LeaveHas, RoutineHas, HandlerHas}
use Rattle.built_valid_law.specs.Kept.{Keeps}
use Rattle.built_valid_law.proofs.Keeping.{routine_keeps, process_keeps}
use Rattle.built_valid_law.proofs.Lines.{all_both}
use Rattle.edf_admission.specs.Admitted as admitted
use Rattle.edf_admission.specs.Admitted.{IsWait, is_wait}
use Rattle.edf_correct.specs.Waits.{HandlerHasNoWait, HasNoWait}

abbrev IsFree : Instr → Type 0
IsFree j = is_wait j ≡ false

-- ---- single instructions

areas_free : (a : Area) (w low len : ℤ) → IsFree (load a w) × IsFree (load_at a w low len) × IsFree (store a w) × IsFree (store_at a w low len)
areas_free in_frame w low len = (refl, refl, refl, refl)
areas_free in_process w low len = (refl, refl, refl, refl)
areas_free in_monitor w low len = (refl, refl, refl, refl)

name_free : (s : Option Spot) (k : Option (Name × ℤ)) → IsFree (load_name s k)
name_free None None = refl
name_free None (Some k) = refl
name_free (Some s) k = (areas_free s.area (pos s.place.word) (pos 0) (pos 0)).0

element_free : (s : Option Spot) → IsFree (load_element s)
element_free None = refl
element_free (Some s) = by s.place.shape where
  by : (x : Shape) → IsFree (load_shape s.area s.place.word x)
  by single = refl
  by (array low len) = (areas_free s.area (pos s.place.word) low (pos len)).1

op_free : (op : Op) → IsFree (op_instr op)
op_free or = refl
op_free and = refl
op_free equal = refl
op_free unequal = refl
op_free less = refl
op_free less_equal = refl
op_free greater = refl
op_free greater_equal = refl
op_free add = refl
op_free sub = refl
op_free mul = refl
op_free div = refl
op_free remainder = refl

range_free : (r : Option Range) → AllOf IsFree (range_code r)
range_free None = tt
range_free (Some r) = (refl, tt)

-- ---- expressions and targets

module _ (g : Program) where
  call_free : (o : Option Text) (args : List Param → List Instr) → ((ps : List Param) → AllOf IsFree (args ps)) → AllOf IsFree (call_code g o args)
  call_free None args each = tt
  call_free (Some t) args each = all_both IsFree (args t.routine.params) (i.Call (pos (number_of g t)) ∷ []) (each t.routine.params) (refl, tt)

  mutual
    expr_free : (c : Scope) (x : Expr) → AllOf IsFree (code_of g c x)
    expr_free c (literal n) = (refl, tt)
    expr_free c (truth b) = (refl, tt)
    expr_free c (variable x) = (name_free (spot_of g c x) (constant_named g x), tt)
    expr_free c (element x e) = all_both IsFree (code_of g c e) (load_element (spot_of g c x) ∷ []) (expr_free c e) (element_free (spot_of g c x), tt)
    expr_free c (call f es) = call_free (routine_in g c.owner f) (λ ps. args_code g c es ps) (λ ps. args_free c es ps)
    expr_free c (minus e) = all_both IsFree (code_of g c e) (i.Neg ∷ []) (expr_free c e) (refl, tt)
    expr_free c (negation e) = all_both IsFree (code_of g c e) (i.Not ∷ []) (expr_free c e) (refl, tt)
    expr_free c (paren e) = expr_free c e
    expr_free c (row e r) = all_both IsFree (code_of g c e) (row_code g c r) (expr_free c e) (row_free c r)

    row_free : (c : Scope) (r : Operands) → AllOf IsFree (row_code g c r)
    row_free c no_operands = tt
    row_free c (operand op e r) = all_both IsFree (code_of g c e) (op_instr op ∷ row_code g c r) (expr_free c e) (op_free op, row_free c r)

    args_free : (c : Scope) (es : Exprs) (ps : List Param) → AllOf IsFree (args_code g c es ps)
    args_free c no_exprs ps = tt
    args_free c (exprs e es) [] = tt
    args_free c (exprs e es) (p ∷ ps) =
        all_both IsFree (code_of g c e) (range_code (range_of g p.kind) ++ args_code g c es ps) (expr_free c e)
        (all_both IsFree (range_code (range_of g p.kind)) (args_code g c es ps) (range_free (range_of g p.kind)) (args_free c es ps))

  entry_free : (c : Scope) (m e : Name) (es : Exprs) → AllOf IsFree (call_code g (entry_in g m e) (λ ps. args_code g c es ps))
  entry_free c m e es = call_free (entry_in g m e) (λ ps. args_code g c es ps) (λ ps. args_free c es ps)

  index_free : (c : Scope) (r : Ref) → AllOf IsFree (index_code g c r)
  index_free c (whole x) = tt
  index_free c (part x e) = expr_free c e

  spot_free : (s : Option Spot) → AllOf IsFree (store_spot s)
  spot_free None = tt
  spot_free (Some s) = ((areas_free s.area (pos s.place.word) (pos 0) (pos 0)).2, tt)

  item_free : (s : Option Spot) → AllOf IsFree (store_element s)
  item_free None = tt
  item_free (Some s) = by s.place.shape where
    by : (x : Shape) → AllOf IsFree (store_shape s.area s.place.word x)
    by single = tt
    by (array low len) = ((areas_free s.area (pos s.place.word) low (pos len)).3, tt)

  store_free : (c : Scope) (r : Ref) → AllOf IsFree (store_code g c r)
  store_free c (whole x) = spot_free (spot_of g c x)
  store_free c (part x e) = item_free (spot_of g c x)

  put_free : (c : Scope) (r : Ref) → AllOf IsFree (put_code g c r)
  put_free c r = all_both IsFree (range_code (range_of_spot (spot_of g c (ref_name r)))) (store_code g c r) (range_free (range_of_spot (spot_of g c (ref_name r)))) (store_free c r)

  -- ---- statements

  mutual
    stmt_free : (c : Scope) (w : ℕ) (s : Stmt) → NoWait s → StmtHas IsFree g c w s
    stmt_free c w (assign r e) none =
        all_both IsFree (index_code g c r) (code_of g c e ++ put_code g c r) (index_free c r) (all_both IsFree (code_of g c e) (put_code g c r) (expr_free c e) (put_free c r))
    stmt_free c w (assign_entry r m e es) none =
        all_both IsFree (index_code g c r) (call_code g (entry_in g m e) (λ ps. args_code g c es ps) ++ put_code g c r) (index_free c r)
        (all_both IsFree (call_code g (entry_in g m e) (λ ps. args_code g c es ps)) (put_code g c r) (entry_free c m e es) (put_free c r))
    stmt_free c w (assign_empty r x) none = all_both IsFree (index_code g c r) (i.Empty (pos (condition_of g c.owner x)) ∷ store_code g c r) (index_free c r) (refl, store_free c r)
    stmt_free c w (perform f es) none = call_free (routine_in g c.owner f) (λ ps. args_code g c es ps) (λ ps. args_free c es ps)
    stmt_free c w (perform_entry m e es) none = entry_free c m e es
    stmt_free c w (when e a) none = (expr_free c e, stmts_free c w a none)
    stmt_free c w (when_else e a b) none = (expr_free c e, stmts_free c w a none.0, stmts_free c (w + loops a) b none.1)
    stmt_free c w (loop x low high ss) none = ((refl, (refl, (refl, tt))), λ q. stmts_free (inner c x w q) (suc w) ss none, (refl, (refl, (refl, (refl, tt)))))
    stmt_free c w (exit_when e) none = expr_free c e
    stmt_free c w (get d r) none = all_both IsFree (index_code g c r) (i.In (pos (device_number g d)) ∷ put_code g c r) (index_free c r) (refl, put_free c r)
    stmt_free c w (put d e) none = all_both IsFree (code_of g c e) (i.Out (pos (device_number g d)) ∷ []) (expr_free c e) (refl, tt)
    stmt_free c w (wait x limit number) none = absurd none
    stmt_free c w (signal x) none = refl
    stmt_free c w (broadcast x) none = refl
    stmt_free c w (except n) none = refl
    stmt_free c w (assert e) none = (expr_free c e, refl)

    stmts_free : (c : Scope) (w : ℕ) (ss : Stmts) → NoWaits ss → StmtsHave IsFree g c w ss
    stmts_free c w no_stmts none = tt
    stmts_free c w (stmts s ss) none = (stmt_free c w s none.0, stmts_free c (w + loops_in s) ss none.1)

  -- ---- routines and processes

  branches : EachBranch IsFree
  branches = record { jump = λ n. refl; jump_zero = λ n. refl; repeat = λ n. refl; exit = λ n. refl }

  enters_free : (o : Owner) → AllOf IsFree (enter_code o) × LeaveHas IsFree o
  enters_free by_program = (tt, tt)
  enters_free (by_process k) = (tt, tt)
  enters_free (by_monitor m) = ((refl, tt), refl)

  ends_free : (c : Scope) (a : Option Answers) → EndHas IsFree g c a
  ends_free c None = refl
  ends_free c (Some a) = ((expr_free c a.value, range_free (range_of g a.kind)), refl)

  routine_free : (t : Text) → NoWaits t.routine.body → RoutineHas IsFree g t
  routine_free t none = record {
    branches = branches;
    enters = (enters_free t.owner).0;
    body = stmts_free (routine_scope g t) (routine_vars_words g t.routine) t.routine.body none;
    ends = ends_free (routine_scope g t) t.routine.answers;
    leaves = (enters_free t.owner).1;
  }

  handler_free : (k : ℕ) (p : Process) (h : Option Handler) → HandlerHasNoWait h → HandlerHas IsFree g k p h
  handler_free k p None none = tt
  handler_free k p (Some h) none = stmts_free (process_scope g k p) (loops p.body) h.body none

  -- ---- the whole

  module _ (code : List Instr) where
    both : (p r q : ℕ) → Keeps code IsFree p r → Keeps code IsFree r q → Keeps code IsFree p q
    both p r q h k a j low high is = elim (cases_lt a r) [ inl low_r ↦ h a j low low_r is | inr past ↦ k a j past high is ]

    nothing : (p q : ℕ) → q ≡ p → Keeps code IsFree p q
    nothing p q end a j low high is = absurd (omega (arith, end, low, high))

    routines_free : (p q : ℕ) (ts : List Text) (rs : List image.Routine) → EmitsRoutines g code p q ts rs → ((n : ℕ) (t : Text) → slice_get ts n ≡ Some t → NoWaits t.routine.body) → Keeps code IsFree p q
    routines_free p q [] [] emits none = nothing p q emits
    routines_free p q [] (r ∷ rs) emits none = absurd emits
    routines_free p q (t ∷ ts) [] emits none = absurd emits
    routines_free p q (t ∷ ts) (r ∷ rs) emits none =
        both p emits.0 q (routine_keeps code IsFree g t p emits.0 emits.3 (routine_free t (none 0 t refl))) (routines_free emits.0 q ts rs emits.4 (λ n u at. none (suc n) u at))

    processes_free : (k p q : ℕ) (ts : List Process) (ps : List image.Process) → EmitsProcesses g code k p q ts ps → ((n : ℕ) (t : Process) → slice_get ts n ≡ Some t → NoWaits t.body × HandlerHasNoWait t.handler) → Keeps code IsFree p q
    processes_free k p q [] [] emits none = nothing p q emits
    processes_free k p q [] (x ∷ xs) emits none = absurd emits
    processes_free k p q (t ∷ ts) [] emits none = absurd emits
    processes_free k p q (t ∷ ts) (x ∷ xs) emits none =
        let n = none 0 t refl in
        both p emits.0 q
        (process_keeps code IsFree g k t p emits.0 x emits.1 (record { branches = branches; body = stmts_free (process_scope g k t) 0 t.body n.0; handler = handler_free k t t.handler n.1; ends = refl }))
        (processes_free (suc k) emits.0 q ts xs emits.2 (λ j u at. none (suc j) u at))

  module _ (none : HasNoWait g) where
    listed_free : (o : Owner) (r : Routine) → Listed g r o → NoWaits r.body
    listed_free _ r (of_the_program f) = let x = found_there r.name (routines g) r f in none.program x.0 r x.1
    listed_free _ r (of_a_process k p at f) = let x = found_there r.name p.routines r f in (none.bodies k p at).own x.0 r x.1
    listed_free _ r (of_a_monitor m d at f) = let x = found_there r.name d.entries r f in none.entries m d at x.0 r x.1

    text_free : IsReady g → (n : ℕ) (t : Text) → slice_get (numbered g) n ≡ Some t → NoWaits t.routine.body
    text_free ready n t at = listed_free t.owner t.routine (is_listed g t.owner t.routine (listed_text g ready.apart.differ t (ready.numbered.listed n t at)))

    pub code_free : (m : image.Image) → IsReady g → IsCodeOf g m → admitted.HasNoWait m
    code_free m ready is a found =
        let low : a < length m.code = slice_get_within m.code a found.instr found.here in
        let keeps : Keeps m.code IsFree 0 (length m.code) =
        both m.code 0 is.between (length m.code) (routines_free m.code 0 is.between (numbered g) m.routines is.routine_code (text_free ready))
        (processes_free m.code 0 is.between (length m.code) (processes g) m.processes is.process_code (λ k p at. ((none.bodies k p at).body, (none.bodies k p at).handler))) in
        let free : is_wait found.instr ≡ false = keeps a found.instr (omega arith) low found.here in
        let e : false ≡ true = sym free ∙ found.waits in
        cc

-- Constants, devices, conditions and loops have numbers that are operands.
use Rattle.std.specs.Prelude.{sum_by}
use Rattle.std.proofs.Common.{◌≡◌, ◌+◌, ◌≤◌, ℕ, zero, suc, Bool, true, false, cond, List, [], ◌∷◌, length, filter_map, Option, Some, None, ℤ, pos, bytes_eq, slice_get, refl, ap, subst, arith}
use Rattle.std.proofs.lemmas.List.Sums.{sum_by-cons}
use Rattle.base.specs.Words.{is_word}
use Rattle.syntax_tree.specs.Plain.{Name, Var, Kind, scalar, array, Stmt, assign, assign_entry, assign_empty, perform, perform_entry, when, when_else, loop, exit_when, get, put, wait, signal, broadcast, except, assert, Stmts, no_stmts, stmts, Handler, Monitor, Process, Declaration, constant, device, event, routine, monitor, process, Program}
use Rattle.source_semantics.specs.Names.{named, place_of, constants, constants_from, constant_among, device_in, device_number, variable_in, conditions_of, condition_count, condition_from, condition_number, monitors}
use Rattle.code_spec.specs.Layout.{Owner, by_program, by_process, by_monitor, size_of, shape_of, words_of, monitor_vars, base_from, loops, loops_in, handler_loops}
use Rattle.code_spec.specs.Code.{constant_named}
use Rattle.code_spec.specs.Emits.{condition_of}
use Rattle.code_cost_spec.specs.Names.{Names, inside}
use Rattle.code_cost_spec.specs.Lengths.{stmt_length, stmts_length, handler_length}
use Rattle.code_cost_spec.specs.Levels.{process_names, processes_length}
use Rattle.static_semantics.specs.WellFormed.{ConstantsFit, kind_size, vars_words}
use Rattle.codegen_spec.specs.Told.{value_told}
use Rattle.codegen_law.specs.MadeRightFits.{Fit}
use Rattle.codegen_law.proofs.Words.{fit_low, word_fits}

-- ---- constants

abbrev AreWords : List (Name × ℤ) → Type 0
AreWords [] = Unit {0}
AreWords (k ∷ ks) = (is_word k.1 ≡ true) × AreWords ks

constants_words : (known : List (Name × ℤ)) (ds : List Declaration) → AreWords known → ConstantsFit known ds → AreWords (constants_from known ds)
constants_words known [] h k = h
constants_words known (constant n c ∷ ds) h k = constants_words ((n, constant_among known c) ∷ known) ds (k.0.word, h) k.1
constants_words known (device n b ∷ ds) h k = constants_words known ds h k
constants_words known (event n ∷ ds) h k = constants_words known ds h k
constants_words known (routine r ∷ ds) h k = constants_words known ds h k
constants_words known (monitor m ∷ ds) h k = constants_words known ds h k
constants_words known (process p ∷ ds) h k = constants_words known ds h k

named_word : (x : Name) (ks : List (Name × ℤ)) → AreWords ks → Fit (value_told (named (λ k. k.0) x ks))
named_word x [] h = fit_low 0 (omega arith)
named_word x (k ∷ ks) h = by_case (bytes_eq k.0 x) (named_word x ks h.1)
  where
    by_case : (b : Bool) → Fit (value_told (named (λ k. k.0) x ks)) → Fit (value_told (cond b (Some k) (named (λ k. k.0) x ks)))
    by_case true j = word_fits k.1 h.0
    by_case false j = j

pub constants_fit : (g : Program) → ConstantsFit [] g.decls → (x : Name) → Fit (value_told (constant_named g x))
constants_fit g h x = named_word x (constants g) (constants_words [] g.decls tt h)

-- ---- devices and conditions

place_low : (x : Name) (ns : List Name) → place_of x ns ≤ length ns
place_low x [] = omega arith
place_low x (n ∷ ns) = by_case (bytes_eq n x) (place_low x ns)
  where
    by_case : (b : Bool) → place_of x ns ≤ length ns → cond b 0 (suc (place_of x ns)) ≤ suc (length ns)
    by_case true h = omega arith
    by_case false h = omega arith

pub devices_fit : (g : Program) → length (filter_map device_in g.decls) ≤ 64 → (d : Name) → Fit (pos (device_number g d))
devices_fit g few d = let low : device_number g d ≤ length (filter_map device_in g.decls) = place_low d (filter_map device_in g.decls) in fit_low (device_number g d) (omega arith)

conditions_low : (before m : ℕ) (x : Name) (ms : List Monitor) → condition_from before m x ms ≤ before + condition_count ms
conditions_low before m x [] = omega arith
conditions_low before zero x (k ∷ ks) =
    let low : place_of x (conditions_of k) ≤ length (conditions_of k) = place_low x (conditions_of k) in
    let more : condition_count (k ∷ ks) ≡ length (conditions_of k) + condition_count ks = sum_by-cons (λ y. length (conditions_of y)) k ks in
    omega arith
conditions_low before (suc m) x (k ∷ ks) =
    let low : condition_from (before + length (conditions_of k)) m x ks ≤ before + length (conditions_of k) + condition_count ks = conditions_low (before + length (conditions_of k)) m x ks in
    let more : condition_count (k ∷ ks) ≡ length (conditions_of k) + condition_count ks = sum_by-cons (λ y. length (conditions_of y)) k ks in
    omega arith

pub conditions_fit : (g : Program) → condition_count (monitors g) ≤ 256 → (o : Owner) (x : Name) → Fit (pos (condition_of g o x))
conditions_fit g few by_program x = fit_low 0 (omega arith)
conditions_fit g few (by_process k) x = fit_low 0 (omega arith)
conditions_fit g few (by_monitor m) x = let low : condition_number g m x ≤ 0 + condition_count (monitors g) = conditions_low 0 m x (monitors g) in fit_low (condition_number g m x) (omega arith)

-- ---- words

kind_same : (g : Program) (k : Kind) → size_of (shape_of g k) ≡ kind_size g k
kind_same g (scalar s) = refl
kind_same g (array low high s) = refl

pub words_same : (g : Program) (vs : List Var) → words_of g vs ≡ vars_words g vs
words_same g [] = refl
words_same g (v ∷ vs) =
    let more : vars_words g (v ∷ vs) ≡ kind_size g v.kind + vars_words g vs = sum_by-cons (λ y. kind_size g y.kind) v vs in
    let one : size_of (shape_of g v.kind) ≡ kind_size g v.kind = kind_same g v.kind in
    let rest : words_of g vs ≡ vars_words g vs = words_same g vs in
    omega arith

pub one_low : {X : Type 0} (f : X → ℕ) (xs : List X) (k : ℕ) (x : X) → slice_get xs k ≡ Some x → f x ≤ sum_by f xs
one_low f [] k x e = absurd cc
one_low f (y ∷ ys) zero x e = let more : sum_by f (y ∷ ys) ≡ f y + sum_by f ys = sum_by-cons f y ys in let same : y ≡ x = cc in let one : f y ≡ f x = ap f same in omega arith
one_low f (y ∷ ys) (suc k) x e = let more : sum_by f (y ∷ ys) ≡ f y + sum_by f ys = sum_by-cons f y ys in let rest : f x ≤ sum_by f ys = one_low f ys k x e in omega arith

pub base_low : (g : Program) (before k : ℕ) (ms : List Monitor) (m : Monitor) → slice_get ms k ≡ Some m
    → base_from g before k ms + words_of g (monitor_vars m) ≤ before + sum_by (λ y. vars_words g (filter_map variable_in y.members)) ms
base_low g before k [] m e = absurd cc
base_low g before zero (y ∷ ys) m e =
    let same : y ≡ m = cc in
    let more : sum_by (λ y. vars_words g (filter_map variable_in y.members)) (y ∷ ys) ≡ vars_words g (monitor_vars y) + sum_by (λ y. vars_words g (filter_map variable_in y.members)) ys = sum_by-cons (λ y. vars_words g (filter_map variable_in y.members)) y ys in
    let one : words_of g (monitor_vars m) ≡ vars_words g (monitor_vars y) = subst (λ z. words_of g (monitor_vars z) ≡ vars_words g (monitor_vars y)) same (words_same g (monitor_vars y)) in
    omega arith
base_low g before (suc k) (y ∷ ys) m e =
    let more : sum_by (λ y. vars_words g (filter_map variable_in y.members)) (y ∷ ys) ≡ vars_words g (monitor_vars y) + sum_by (λ y. vars_words g (filter_map variable_in y.members)) ys = sum_by-cons (λ y. vars_words g (filter_map variable_in y.members)) y ys in
    let one : words_of g (monitor_vars y) ≡ vars_words g (monitor_vars y) = words_same g (monitor_vars y) in
    let rest : base_from g (before + words_of g (monitor_vars y)) k ys + words_of g (monitor_vars m) ≤ before + words_of g (monitor_vars y) + sum_by (λ y. vars_words g (filter_map variable_in y.members)) ys = base_low g (before + words_of g (monitor_vars y)) k ys m e in
    omega arith

-- ---- loops

mutual
  loops_in_low : (g : Program) (n : Names) (s : Stmt) → loops_in s ≤ stmt_length g n s
  loops_in_low g n (when e a) = let h : loops a ≤ stmts_length g n a = loops_low g n a in omega arith
  loops_in_low g n (when_else e a b) = let h : loops a ≤ stmts_length g n a = loops_low g n a in let k : loops b ≤ stmts_length g n b = loops_low g n b in omega arith
  loops_in_low g n (loop x low high ss) = let h : loops ss ≤ stmts_length g (inside n x) ss = loops_low g (inside n x) ss in omega arith
  loops_in_low g n (assign r e) = omega arith
  loops_in_low g n (assign_entry r m e es) = omega arith
  loops_in_low g n (assign_empty r x) = omega arith
  loops_in_low g n (perform f es) = omega arith
  loops_in_low g n (perform_entry m e es) = omega arith
  loops_in_low g n (exit_when e) = omega arith
  loops_in_low g n (get d r) = omega arith
  loops_in_low g n (put d e) = omega arith
  loops_in_low g n (wait x l m) = omega arith
  loops_in_low g n (signal x) = omega arith
  loops_in_low g n (broadcast x) = omega arith
  loops_in_low g n (except m) = omega arith
  loops_in_low g n (assert e) = omega arith

  pub loops_low : (g : Program) (n : Names) (ss : Stmts) → loops ss ≤ stmts_length g n ss
  loops_low g n no_stmts = omega arith
  loops_low g n (stmts s ss) = let h : loops_in s ≤ stmt_length g n s = loops_in_low g n s in let k : loops ss ≤ stmts_length g n ss = loops_low g n ss in omega arith

handler_low : (g : Program) (n : Names) (h : Option Handler) → handler_loops h ≤ handler_length g n h
handler_low g n None = omega arith
handler_low g n (Some h) = let k : loops h.body ≤ stmts_length g n h.body = loops_low g n h.body in omega arith

-- the loops of a process are fewer than the instructions of all
pub process_low : (g : Program) (n : ℕ) (ps : List Process) (k : ℕ) (p : Process) → slice_get ps k ≡ Some p → loops p.body + handler_loops p.handler ≤ processes_length g n ps
process_low g n [] k p e = absurd cc
process_low g n (t ∷ ts) zero p e =
    let same : t ≡ p = cc in
    let body : loops t.body ≤ stmts_length g (process_names g n t) t.body = loops_low g (process_names g n t) t.body in
    let rest : handler_loops t.handler ≤ handler_length g (process_names g n t) t.handler = handler_low g (process_names g n t) t.handler in
    subst (λ z. loops z.body + handler_loops z.handler ≤ processes_length g n (t ∷ ts)) same (omega arith)
process_low g n (t ∷ ts) (suc k) p e = let h : loops p.body + handler_loops p.handler ≤ processes_length g (suc n) ts = process_low g (suc n) ts k p e in omega arith

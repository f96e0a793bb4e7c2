-- The tree of a text covers as many instructions as its code has.
use Rattle.std.specs.Prelude.{◌≡◌, ◌+◌, ℕ, suc, List, [], ◌∷◌, ◌++◌, Option, Some, None, ℤ, pos, length}
use Rattle.std.proofs.Common.{refl, ap, subst, arith}
use Rattle.syntax_tree.specs.Plain.{Name, Param, Expr, literal, truth, variable, element, call, minus, negation, paren, row, Exprs, no_exprs, exprs, Operands, no_operands, operand, Ref, whole, part, Stmt, assign, assign_entry, assign_empty, perform, perform_entry, when, when_else, loop, exit_when, get, put, wait, signal, broadcast, except, assert, Stmts, no_stmts, stmts, Program}
use Rattle.source_semantics.specs.Store.{range_of}
use Rattle.machine_isa.specs.declared.instr.Instr.{Instr}
use Rattle.machine_isa.specs.declared.instr.Instr.TheVariants as i
use Rattle.machine_semantics.specs.Trees.{Segs, Fork, Rep, Call, Exit, Nil, Cons, size}
use Rattle.code_spec.specs.Layout.{Shape, single, array, Spot, Scope, spot_of, loops, loops_in}
use Rattle.source_semantics.specs.Names.{device_number, constant_value}
use Rattle.code_spec.specs.Numbering.{Text, routine_in, entry_in, number_of}
use Rattle.code_spec.specs.Code.{code_of, row_code, args_code, call_code, index_code, store_code, store_spot, store_element, store_shape, put_code, range_code, range_of_spot, ref_name}
use Rattle.code_spec.specs.Emits.{IsLine, inner, Emits, EmitsAll, condition_of, turns_of}
use Rattle.code_spec.specs.Segments.{line, call_segs, expr_segs, row_segs, args_segs, index_segs, put_segs, stmt_segs, stmts_segs}
use Rattle.code_spec.specs.Memory.{Setting}
use Rattle.code_spec.specs.Proper.{IsSingle, IsArray, IsFree, ProperRef, Proper, ProperAll}
use Rattle.code_measures.proofs.Sizes.{line_size, alike_inner, Alike}
use Rattle.code_measures.proofs.Lines.{length_both}

-- ---- expressions

module _ (g : Program) (c d : Scope) (a : Alike g c d) where
  call_sizes : (t : Option Text) (es : Exprs) (after : Segs) → ((ps : List Param) (k : Segs) → size (args_segs g d es ps k) ≡ length (args_code g c es ps) + size k)
      → size (call_segs g t (λ ps k. args_segs g d es ps k) after) ≡ length (call_code g t (λ ps. args_code g c es ps)) + size after
  call_sizes None es after args = omega arith
  call_sizes (Some t) es after args =
      let h : size (args_segs g d es t.routine.params (Cons (Call (number_of g t)) after)) ≡ length (args_code g c es t.routine.params) + size (Cons (Call (number_of g t)) after) = args t.routine.params (Cons (Call (number_of g t)) after) in
      let j : length (args_code g c es t.routine.params ++ (i.Call (pos (number_of g t)) ∷ [])) ≡ length (args_code g c es t.routine.params) + 1 = length_both (args_code g c es t.routine.params) _ in omega arith

  mutual
    expr_size : (e : Expr) (after : Segs) → size (expr_segs g d e after) ≡ length (code_of g c e) + size after
    expr_size (literal n) after = line_size 1 after
    expr_size (truth b) after = line_size 1 after
    expr_size (variable x) after = line_size 1 after
    expr_size (element x e) after =
        let h : size (expr_segs g d e (line 1 after)) ≡ length (code_of g c e) + size (line 1 after) = expr_size e (line 1 after) in
        let l : size (line 1 after) ≡ 1 + size after = line_size 1 after in
        let j : length (code_of g c (element x e)) ≡ length (code_of g c e) + 1 = length_both (code_of g c e) _ in omega arith
    expr_size (call f es) after = subst (λ r. size (call_segs g (routine_in g r f) (λ ps k. args_segs g d es ps k) after) ≡ length (code_of g c (call f es)) + size after) a.owner (call_sizes (routine_in g c.owner f) es after (λ ps k. args_size es ps k))
    expr_size (minus e) after =
        let h : size (expr_segs g d e (line 1 after)) ≡ length (code_of g c e) + size (line 1 after) = expr_size e (line 1 after) in
        let l : size (line 1 after) ≡ 1 + size after = line_size 1 after in
        let j : length (code_of g c (minus e)) ≡ length (code_of g c e) + 1 = length_both (code_of g c e) _ in omega arith
    expr_size (negation e) after =
        let h : size (expr_segs g d e (line 1 after)) ≡ length (code_of g c e) + size (line 1 after) = expr_size e (line 1 after) in
        let l : size (line 1 after) ≡ 1 + size after = line_size 1 after in
        let j : length (code_of g c (negation e)) ≡ length (code_of g c e) + 1 = length_both (code_of g c e) _ in omega arith
    expr_size (paren e) after = expr_size e after
    expr_size (row e r) after =
        let h : size (expr_segs g d e (row_segs g d r after)) ≡ length (code_of g c e) + size (row_segs g d r after) = expr_size e (row_segs g d r after) in
        let k : size (row_segs g d r after) ≡ length (row_code g c r) + size after = row_size r after in
        let j : length (code_of g c (row e r)) ≡ length (code_of g c e) + length (row_code g c r) = length_both (code_of g c e) (row_code g c r) in omega arith

    row_size : (r : Operands) (after : Segs) → size (row_segs g d r after) ≡ length (row_code g c r) + size after
    row_size no_operands after = omega arith
    row_size (operand op e r) after =
        let h : size (expr_segs g d e (line 1 (row_segs g d r after))) ≡ length (code_of g c e) + size (line 1 (row_segs g d r after)) = expr_size e (line 1 (row_segs g d r after)) in
        let l : size (line 1 (row_segs g d r after)) ≡ 1 + size (row_segs g d r after) = line_size 1 (row_segs g d r after) in
        let k : size (row_segs g d r after) ≡ length (row_code g c r) + size after = row_size r after in
        let j : length (row_code g c (operand op e r)) ≡ length (code_of g c e) + suc (length (row_code g c r)) = length_both (code_of g c e) _ in omega arith

    args_size : (es : Exprs) (ps : List Param) (after : Segs) → size (args_segs g d es ps after) ≡ length (args_code g c es ps) + size after
    args_size no_exprs ps after = omega arith
    args_size (exprs e es) [] after = omega arith
    args_size (exprs e es) (p ∷ ps) after =
        let tail : Segs = args_segs g d es ps after in
        let check : ℕ = length (range_code (range_of g p.kind)) in
        let h : size (expr_segs g d e (line (length (range_code (range_of g p.kind))) (args_segs g d es ps after))) ≡ length (code_of g c e) + size (line (length (range_code (range_of g p.kind))) (args_segs g d es ps after)) =
        expr_size e (line (length (range_code (range_of g p.kind))) (args_segs g d es ps after)) in
        let l : size (line (length (range_code (range_of g p.kind))) (args_segs g d es ps after)) ≡ length (range_code (range_of g p.kind)) + size (args_segs g d es ps after) = line_size (length (range_code (range_of g p.kind))) (args_segs g d es ps after) in
        let k : size (args_segs g d es ps after) ≡ length (args_code g c es ps) + size after = args_size es ps after in
        let j : length (code_of g c e ++ (range_code (range_of g p.kind) ++ args_code g c es ps)) ≡ length (code_of g c e) + length (range_code (range_of g p.kind) ++ args_code g c es ps) = length_both (code_of g c e) _ in
        let j2 : length (range_code (range_of g p.kind) ++ args_code g c es ps) ≡ length (range_code (range_of g p.kind)) + length (args_code g c es ps) = length_both (range_code (range_of g p.kind)) _ in omega arith

  call_size : (t : Option Text) (es : Exprs) (after : Segs) → size (call_segs g t (λ ps k. args_segs g d es ps k) after) ≡ length (call_code g t (λ ps. args_code g c es ps)) + size after
  call_size t es after = call_sizes t es after (λ ps k. args_size es ps k)

  index_size : (r : Ref) (after : Segs) → size (index_segs g d r after) ≡ length (index_code g c r) + size after
  index_size (whole x) after = omega arith
  index_size (part x e) after = expr_size e after

-- ---- statements

module _ (e : Setting) where
  -- what may be assigned to is stored by one instruction, in both scopes with one check
  spot_store : (c : Scope) (x : Name) (sp : Option Spot) → spot_of e.program c x ≡ sp → IsSingle sp → (length (store_spot sp) ≡ 1)
  spot_store c x None is h = absurd h
  spot_store c x (Some s) is h = refl

  element_store : (s : Spot) (shape : Shape) → (low : ℤ) × (len : ℕ) × (shape ≡ array low len) → length (store_shape s.area s.place.word shape) ≡ 1
  element_store s single h = absurd (not_array h.0 h.1 h.2)
    where
      not_array : (low : ℤ) (len : ℕ) → single ≡ array low len → ⊥
      not_array low len h = absurd cc
  element_store s (array low len) h = refl

  spot_element : (sp : Option Spot) → IsArray sp → (length (store_element sp) ≡ 1)
  spot_element None h = absurd h
  spot_element (Some s) h = element_store s s.place.shape h

  store_size : (c : Scope) (r : Ref) → ProperRef e c r → length (store_code e.program c r) ≡ 1
  store_size c (whole x) h = spot_store c x (spot_of e.program c x) refl h.0
  store_size c (part x i) h = spot_element (spot_of e.program c x) h.0

  free_of : (c : Scope) (r : Ref) → ProperRef e c r → IsFree c.is_function (spot_of e.program c (ref_name r))
  free_of c (whole x) h = h.1
  free_of c (part x i) h = h.1

  same_range : (c d : Scope) (x : Name) (sp : Option Spot) → Alike e.program c d → spot_of e.program c x ≡ sp → IsFree c.is_function sp → range_of_spot (spot_of e.program d x) ≡ range_of_spot sp
  same_range c d x None a is h = absurd h
  same_range c d x (Some s) a is h = a.range x s is h.0

  put_size : (c d : Scope) (r : Ref) (after : Segs) → Alike e.program c d → ProperRef e c r → size (put_segs e.program d r after) ≡ length (put_code e.program c r) + size after
  put_size c d r after a ok =
      let check : ℕ = length (range_code (range_of_spot (spot_of e.program d (ref_name r)))) in
      let one : length (store_code e.program c r) ≡ 1 = store_size c r ok in
      let l : size (line (length (range_code (range_of_spot (spot_of e.program d (ref_name r)))) + 1) after) ≡ length (range_code (range_of_spot (spot_of e.program d (ref_name r)))) + 1 + size after =
      line_size (length (range_code (range_of_spot (spot_of e.program d (ref_name r)))) + 1) after in
      let same : length (range_code (range_of_spot (spot_of e.program d (ref_name r)))) ≡ length (range_code (range_of_spot (spot_of e.program c (ref_name r)))) =
      ap (λ t. length (range_code t)) (same_range c d (ref_name r) (spot_of e.program c (ref_name r)) a refl (free_of c r ok)) in
      let j : length (range_code (range_of_spot (spot_of e.program c (ref_name r))) ++ store_code e.program c r) ≡ length (range_code (range_of_spot (spot_of e.program c (ref_name r)))) + length (store_code e.program c r) =
      length_both (range_code (range_of_spot (spot_of e.program c (ref_name r)))) (store_code e.program c r) in
      omega arith

  -- a line of code with a tree of its size
  lined : (code : List Instr) (p q : ℕ) (js : List Instr) (tree after : ℕ) → IsLine code p q js → tree ≡ length js + after → q + after ≡ p + tree
  lined code p q js tree after l h = let end : q ≡ p + length js = l.end in omega arith

  mutual
    pub stmt_size : (s : Stmt) (c d : Scope) (n w p q : ℕ) (after : Segs) (code : List Instr) → Alike e.program c d → Emits e.program code c w p q s → Proper e c n s → q + size after ≡ p + size (stmt_segs e.program d s after)
    stmt_size (assign r x) c d n w p q after code a h ok =
        let j : length (index_code e.program c r ++ (code_of e.program c x ++ put_code e.program c r)) ≡ length (index_code e.program c r) + length (code_of e.program c x ++ put_code e.program c r) = length_both (index_code e.program c r) _ in
        let j2 : length (code_of e.program c x ++ put_code e.program c r) ≡ length (code_of e.program c x) + length (put_code e.program c r) = length_both (code_of e.program c x) _ in
        let h1 : size (index_segs e.program d r (expr_segs e.program d x (put_segs e.program d r after))) ≡ length (index_code e.program c r) + size (expr_segs e.program d x (put_segs e.program d r after)) = index_size e.program c d a r _ in
        let h2 : size (expr_segs e.program d x (put_segs e.program d r after)) ≡ length (code_of e.program c x) + size (put_segs e.program d r after) = expr_size e.program c d a x _ in
        let h3 : size (put_segs e.program d r after) ≡ length (put_code e.program c r) + size after = put_size c d r after a ok.1 in
        lined code p q (index_code e.program c r ++ (code_of e.program c x ++ put_code e.program c r)) (size (stmt_segs e.program d (assign r x) after)) (size after) h (omega arith)
    stmt_size (assign_entry r m en es) c d n w p q after code a h ok =
        let j : length (index_code e.program c r ++ (call_code e.program (entry_in e.program m en) (λ ps. args_code e.program c es ps) ++ put_code e.program c r))
        ≡ length (index_code e.program c r) + length (call_code e.program (entry_in e.program m en) (λ ps. args_code e.program c es ps) ++ put_code e.program c r) = length_both (index_code e.program c r) _ in
        let j2 : length (call_code e.program (entry_in e.program m en) (λ ps. args_code e.program c es ps) ++ put_code e.program c r) ≡ length (call_code e.program (entry_in e.program m en) (λ ps. args_code e.program c es ps)) + length (put_code e.program c r) =
        length_both (call_code e.program (entry_in e.program m en) (λ ps. args_code e.program c es ps)) _ in
        let h1 : size (index_segs e.program d r (call_segs e.program (entry_in e.program m en) (λ ps k. args_segs e.program d es ps k) (put_segs e.program d r after)))
        ≡ length (index_code e.program c r) + size (call_segs e.program (entry_in e.program m en) (λ ps k. args_segs e.program d es ps k) (put_segs e.program d r after)) = index_size e.program c d a r _ in
        let h2 : size (call_segs e.program (entry_in e.program m en) (λ ps k. args_segs e.program d es ps k) (put_segs e.program d r after)) ≡ length (call_code e.program (entry_in e.program m en) (λ ps. args_code e.program c es ps)) + size (put_segs e.program d r after) =
        call_size e.program c d a (entry_in e.program m en) es _ in
        let h3 : size (put_segs e.program d r after) ≡ length (put_code e.program c r) + size after = put_size c d r after a ok.1 in
        lined code p q (index_code e.program c r ++ (call_code e.program (entry_in e.program m en) (λ ps. args_code e.program c es ps) ++ put_code e.program c r)) (size (stmt_segs e.program d (assign_entry r m en es) after)) (size after) h (omega arith)
    stmt_size (assign_empty r x) c d n w p q after code a h ok =
        let j : length (index_code e.program c r ++ (i.Empty (pos (condition_of e.program c.owner x)) ∷ store_code e.program c r)) ≡ length (index_code e.program c r) + suc (length (store_code e.program c r)) = length_both (index_code e.program c r) _ in
        let one : length (store_code e.program c r) ≡ 1 = store_size c r ok.1 in
        let h1 : size (index_segs e.program d r (line 2 after)) ≡ length (index_code e.program c r) + size (line 2 after) = index_size e.program c d a r _ in
        let l : size (line 2 after) ≡ 2 + size after = line_size 2 after in
        lined code p q (index_code e.program c r ++ (i.Empty (pos (condition_of e.program c.owner x)) ∷ store_code e.program c r)) (size (stmt_segs e.program d (assign_empty r x) after)) (size after) h (omega arith)
    stmt_size (perform f es) c d n w p q after code a h ok =
        lined code p q (call_code e.program (routine_in e.program c.owner f) (λ ps. args_code e.program c es ps)) (size (stmt_segs e.program d (perform f es) after)) (size after) h
        (subst (λ r. size (call_segs e.program (routine_in e.program r f) (λ ps k. args_segs e.program d es ps k) after) ≡ length (call_code e.program (routine_in e.program c.owner f) (λ ps. args_code e.program c es ps)) + size after) a.owner
        (call_size e.program c d a (routine_in e.program c.owner f) es after))
    stmt_size (perform_entry m en es) c d n w p q after code a h ok =
        lined code p q (call_code e.program (entry_in e.program m en) (λ ps. args_code e.program c es ps)) (size (stmt_segs e.program d (perform_entry m en es) after)) (size after) h (call_size e.program c d a (entry_in e.program m en) es after)
    stmt_size (when x s1) c d n w p q after code a h ok =
        let tree : Segs = Cons (Fork (stmts_segs e.program d s1 Nil) Nil) after in
        let h1 : size (expr_segs e.program d x (Cons (Fork (stmts_segs e.program d s1 Nil) Nil) after)) ≡ length (code_of e.program c x) + size (Cons (Fork (stmts_segs e.program d s1 Nil) Nil) after) = expr_size e.program c d a x _ in
        let h2 : h.1 + size Nil ≡ h.0 + 1 + size (stmts_segs e.program d s1 Nil) = stmts_size s1 c d n w (h.0 + 1) h.1 Nil code a h.4 ok.1 in
        let end : h.0 ≡ p + length (code_of e.program c x) = h.2.end in
        let last : q ≡ h.1 + 1 = h.6 in omega arith
    stmt_size (when_else x s1 s2) c d n w p q after code a h ok =
        let h1 : size (expr_segs e.program d x (Cons (Fork (stmts_segs e.program d s1 Nil) (stmts_segs e.program d s2 Nil)) after)) ≡ length (code_of e.program c x) + size (Cons (Fork (stmts_segs e.program d s1 Nil) (stmts_segs e.program d s2 Nil)) after) = expr_size e.program c d a x _ in
        let h2 : h.1 + size Nil ≡ h.0 + 1 + size (stmts_segs e.program d s1 Nil) = stmts_size s1 c d n w (h.0 + 1) h.1 Nil code a h.4 ok.1 in
        let h3 : q + size Nil ≡ h.1 + 1 + size (stmts_segs e.program d s2 Nil) = stmts_size s2 c d n (w + loops s1) (h.1 + 1) q Nil code a h.6 ok.2 in
        let end : h.0 ≡ p + length (code_of e.program c x) = h.2.end in omega arith
    stmt_size (loop x lo hi ss) c d n w p q after code a h ok =
        let h1 : h.0 + size (line 4 Nil) ≡ p + 1 + 1 + 1 + size (stmts_segs e.program d ss (line 4 Nil)) = stmts_size ss (inner c x w q) d n (suc w) (p + 1 + 1 + 1) h.0 (line 4 Nil) code (alike_inner e.program c d x w q a) h.2 (ok.1 w q) in
        let l : size (line 4 Nil) ≡ 4 + size Nil = line_size 4 Nil in
        let l2 : size (line 2 (Cons (Rep (turns_of (constant_value e.program lo) (constant_value e.program hi)) (stmts_segs e.program d ss (line 4 Nil))) after)) ≡ 2 + size (Cons (Rep (turns_of (constant_value e.program lo) (constant_value e.program hi)) (stmts_segs e.program d ss (line 4 Nil))) after) = line_size 2 (Cons (Rep (turns_of (constant_value e.program lo) (constant_value e.program hi)) (stmts_segs e.program d ss (line 4 Nil))) after) in
        let end : q ≡ h.0 + 1 + 1 + 1 + 1 + 1 = h.4 in omega arith
    stmt_size (exit_when x) c d n w p q after code a h ok =
        let h1 : size (expr_segs e.program d x (Cons Exit after)) ≡ length (code_of e.program c x) + size (Cons Exit after) = expr_size e.program c d a x _ in
        let end : h.0 ≡ p + length (code_of e.program c x) = h.2.end in
        let last : q ≡ h.0 + 1 = h.5 in omega arith
    stmt_size (get dev r) c d n w p q after code a h ok =
        let j : length (index_code e.program c r ++ (i.In (pos (device_number e.program dev)) ∷ put_code e.program c r)) ≡ length (index_code e.program c r) + suc (length (put_code e.program c r)) = length_both (index_code e.program c r) (i.In (pos (device_number e.program dev)) ∷ put_code e.program c r) in
        let h1 : size (index_segs e.program d r (line 1 (put_segs e.program d r after))) ≡ length (index_code e.program c r) + size (line 1 (put_segs e.program d r after)) = index_size e.program c d a r _ in
        let l : size (line 1 (put_segs e.program d r after)) ≡ 1 + size (put_segs e.program d r after) = line_size 1 _ in
        let h3 : size (put_segs e.program d r after) ≡ length (put_code e.program c r) + size after = put_size c d r after a ok.1 in
        lined code p q (index_code e.program c r ++ (i.In (pos (device_number e.program dev)) ∷ put_code e.program c r)) (size (stmt_segs e.program d (get dev r) after)) (size after) h (omega arith)
    stmt_size (put dev x) c d n w p q after code a h ok =
        let j : length (code_of e.program c x ++ (i.Out (pos (device_number e.program dev)) ∷ [])) ≡ length (code_of e.program c x) + 1 = length_both (code_of e.program c x) _ in
        let h1 : size (expr_segs e.program d x (line 1 after)) ≡ length (code_of e.program c x) + size (line 1 after) = expr_size e.program c d a x _ in
        let l : size (line 1 after) ≡ 1 + size after = line_size 1 after in
        lined code p q (code_of e.program c x ++ (i.Out (pos (device_number e.program dev)) ∷ [])) (size (stmt_segs e.program d (put dev x) after)) (size after) h (omega arith)
    stmt_size (wait x limit number) c d n w p q after code a h ok = let end : q ≡ p + 2 = h.end in omega arith
    stmt_size (signal x) c d n w p q after code a h ok = let end : q ≡ p + 1 = h.end in let l : size (line 1 after) ≡ 1 + size after = line_size 1 after in omega arith
    stmt_size (broadcast x) c d n w p q after code a h ok = let end : q ≡ p + 1 = h.end in let l : size (line 1 after) ≡ 1 + size after = line_size 1 after in omega arith
    stmt_size (except k) c d n w p q after code a h ok = let end : q ≡ p + 1 = h.end in let l : size (line 1 after) ≡ 1 + size after = line_size 1 after in omega arith
    stmt_size (assert x) c d n w p q after code a h ok =
        let h1 : size (expr_segs e.program d x (Cons (Fork Nil (line 1 Nil)) after)) ≡ length (code_of e.program c x) + size (Cons (Fork Nil (line 1 Nil)) after) = expr_size e.program c d a x _ in
        let end : h.0 ≡ p + length (code_of e.program c x) = h.1.end in
        let last : q ≡ h.0 + 1 + 1 + 1 = h.5 in omega arith

    -- statements and their tree take the same addresses
    pub stmts_size : (ss : Stmts) (c d : Scope) (n w p q : ℕ) (after : Segs) (code : List Instr) → Alike e.program c d → EmitsAll e.program code c w p q ss → ProperAll e c n ss → q + size after ≡ p + size (stmts_segs e.program d ss after)
    stmts_size no_stmts c d n w p q after code a h ok = omega arith
    stmts_size (stmts s ss) c d n w p q after code a h ok =
        let h1 : h.0 + size (stmts_segs e.program d ss after) ≡ p + size (stmt_segs e.program d s (stmts_segs e.program d ss after)) = stmt_size s c d n w p h.0 (stmts_segs e.program d ss after) code a h.1 ok.0 in
        let h2 : q + size after ≡ h.0 + size (stmts_segs e.program d ss after) = stmts_size ss c d n (w + loops_in s) h.0 q after code a h.2 ok.1 in omega arith

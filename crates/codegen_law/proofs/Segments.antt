-- What is made of a text is as long as the text says, and its segments are those of the text.
use Rattle.std.proofs.Common.{◌≡◌, ◌+◌, ◌-◌, ◌≤◌, min, ℕ, List, [], ◌∷◌, ◌++◌, map, length, Option, Some, None, option_map, ℤ, pos, refl, sym, ap, ◌∙◌, arith}
use Rattle.std.proofs.lemmas.List.{length-append, length-set}
use Rattle.syntax_tree.specs.Plain.{Name, Constant, Param, Expr, literal, truth, variable, element, call, minus, negation, paren, row, Exprs, no_exprs, exprs, Operands, no_operands, operand, Ref, whole, part, Stmt, assign, assign_entry, assign_empty, perform, perform_entry, when, when_else, loop, exit_when, get, put, wait, signal, broadcast, except, assert, Stmts, no_stmts, stmts, Program}
use Rattle.base.specs.Words.{of_bool}
use Rattle.source_semantics.specs.Names.{constant_value, device_number}
use Rattle.source_semantics.specs.Store.{Range, range_of}
use Rattle.machine_semantics.specs.Trees as tree
use Rattle.machine_semantics.specs.Trees.{Segs, Line, Nil, Cons}
use Rattle.machine_isa.specs.declared.instr.Instr.{Instr}
use Rattle.machine_isa.specs.declared.instr.Instr.TheVariants as i
use Rattle.code_spec.specs.Layout.{Owner, Area, in_frame, in_process, in_monitor, Shape, single, array, Spot, Scope, spot_of}
use Rattle.code_spec.specs.Numbering.{Text, routine_in, entry_in, number_of}
use Rattle.code_spec.specs.Code.{op_instr, constant_named, range_code, range_of_spot}
use Rattle.code_spec.specs.Emits.{monitor_of, turns_of}
use Rattle.code_spec.specs.Segments.{line, call_segs, expr_segs, row_segs, args_segs, index_segs, put_segs, stmt_segs, stmts_segs}
use Rattle.image_format.specs.View.{view, tree_of}
use Rattle.image_format.specs.Kept.{fork, rep}
use Rattle.image_format.specs.declared.seg.Seg.TheVariants as seg
use Rattle.code_spec.specs.Proper.{IsSingle, IsArray}
use Rattle.code_cost_spec.specs.Names.{Names, inside}
use Rattle.code_cost_spec.specs.Lengths.{check_length, call_length, expr_length, row_length, args_length, index_length, put_length, stmt_length, stmts_length}
use Rattle.code_measures.specs.Sound.{SoundRef, Sound, SoundAll}
use Rattle.code_measures.proofs.Sizes.{Alike, alike_inner, same_range}
use Rattle.code_measures.proofs.Seen.{Sees, sees_inside, range_is}
use Rattle.codegen_spec.specs.declared.var_location.ValueRange.{ValueRange as Range_told}
use Rattle.codegen_spec.specs.Told.{fit, told_area, told_range, told_shape, told_spot, told_callee, range_told, value_told, within}
use Rattle.codegen_spec.specs.Made.{Out, push, closed, patched, load_told, load_at_told, call_out, expr_out, row_out, args_out, condition_told, count_told, store_whole, store_part, store_out, index_out, range_out, store_to, store_at_out, put_whole, put_part, put_out, open_exit, aim, between, choice, counting, turning, stepped, worth, turns_between, stmt_out, stmts_out}
use Rattle.codegen_law.specs.MadeRightFits.{Fit}
use Rattle.codegen_law.proofs.Trees.{line_line}
use Rattle.codegen_law.proofs.Joins.{view_line, view_fork, view_rep, view_call, view_wait, view_exit}
use Rattle.codegen_law.proofs.Expressions.{aiming}
use Rattle.codegen_law.proofs.Bounds.{small_of, BoundsFit, AllBoundsFit}
use Rattle.codegen_law.proofs.Growth.{Grows, none, both, told_as, one, segment, part_tree, length_aims}

pub range_grows : {S : Type 0} (r : Option Range) → Grows S (range_out (option_map told_range r)) (λ k. line (length (range_code r)) k) (check_length r)
range_grows None = none
range_grows (Some r) = one (λ o. i.Range (fit r.low) (fit r.high))

-- ---- expressions

module _ (g : Program) (S : Type 0) (few : S → (t : Text) → number_of g t ≤ 65535) where
  -- a call of what it names, if it names a routine
  call_grows : (t : Option Text) (args : List (Option Range_told) → Out → Out) (segs : List Param → Segs → Segs) (count : List Param → ℕ)
      → ((ps : List Param) → Grows S (λ o. args (map (λ p. range_told g p.kind) ps) o) (segs ps) (count ps)) → Grows S (λ o. call_out (told_callee g t) (λ rs. args rs o) o) (λ k. call_segs g t segs k) (call_length t count)
  call_grows None args segs count a = none
  call_grows (Some t) args segs count a =
      segment (λ o. args (map (λ p. range_told g p.kind) t.routine.params) o) (λ o. push (args (map (λ p. range_told g p.kind) t.routine.params) o) (i.Call (fit (pos (number_of g t))))) (segs t.routine.params)
      (λ o. seg.Call (min (number_of g t) 65535)) (tree.Call (number_of g t)) (count t.routine.params) 1 (a t.routine.params)
      (λ o. length-append (args (map (λ p. range_told g p.kind) t.routine.params) o).code (i.Call (fit (pos (number_of g t))) ∷ []))
      (λ z o h small. let low : number_of g t ≤ 65535 = few z t in let same : min (number_of g t) 65535 ≡ number_of g t = omega arith in view_call (min (number_of g t) 65535) ∙ ap (λ n. tree.Call n) same) (λ i after. refl)

  module _ (c d : Scope) (o : Owner) (alike : c.owner ≡ d.owner) (own : c.owner ≡ o) where
    -- one instruction more
    followed_by : (e : Expr) (j : Instr) → Grows S (expr_out g c e) (expr_segs g d e) (expr_length g o e) → Grows S (λ z. push (expr_out g c e z) j) (λ k. expr_segs g d e (line 1 k)) (expr_length g o e + 1)
    followed_by e j a = both (expr_out g c e) (λ z. push z j) (expr_segs g d e) (λ k. line 1 k) (expr_length g o e) 1 a (one (λ z. j))

    -- a call of a routine, in two scopes of one owner
    pub named_grows : (t u v : Option Text) (es : Exprs) → t ≡ u → t ≡ v → ((ps : List Param) → Grows S (λ z. args_out g c es (map (λ p. range_told g p.kind) ps) z) (λ k. args_segs g d es ps k) (args_length g o es ps))
        → Grows S (λ z. call_out (told_callee g t) (λ rs. args_out g c es rs z) z) (λ k. call_segs g u (λ ps n. args_segs g d es ps n) k) (call_length v (λ ps. args_length g o es ps))
    named_grows t u v es same also a =
        told_as (λ z. call_out (told_callee g t) (λ rs. args_out g c es rs z) z) (λ k. call_segs g t (λ ps n. args_segs g d es ps n) k) (λ k. call_segs g u (λ ps n. args_segs g d es ps n) k) (call_length t (λ ps. args_length g o es ps)) (call_length v (λ ps. args_length g o es ps))
        (λ k. ap (λ r. call_segs g r (λ ps n. args_segs g d es ps n) k) same) (ap (λ r. call_length r (λ ps. args_length g o es ps)) also)
        (call_grows t (λ rs z. args_out g c es rs z) (λ ps n. args_segs g d es ps n) (λ ps. args_length g o es ps) a)

    mutual
      pub expr_grows : (e : Expr) → Grows S (expr_out g c e) (expr_segs g d e) (expr_length g o e)
      expr_grows (literal n) = one (λ o. i.Push (fit (pos n)))
      expr_grows (truth b) = one (λ o. i.Push (of_bool b))
      expr_grows (variable x) = one (λ o. load_told (told_spot (spot_of g c x)) (fit (value_told (constant_named g x))))
      expr_grows (element x e) = followed_by e (load_at_told (told_spot (spot_of g c x))) (expr_grows e)
      expr_grows (call f es) = named_grows (routine_in g c.owner f) (routine_in g d.owner f) (routine_in g o f) es (ap (λ r. routine_in g r f) alike) (ap (λ r. routine_in g r f) own) (λ ps. args_grows es ps)
      expr_grows (minus e) = followed_by e i.Neg (expr_grows e)
      expr_grows (negation e) = followed_by e i.Not (expr_grows e)
      expr_grows (paren e) = expr_grows e
      expr_grows (row e r) = both (expr_out g c e) (row_out g c r) (expr_segs g d e) (row_segs g d r) (expr_length g o e) (row_length g o r) (expr_grows e) (row_grows r)

      row_grows : (r : Operands) → Grows S (row_out g c r) (row_segs g d r) (row_length g o r)
      row_grows no_operands = none
      row_grows (operand op e r) =
          both (expr_out g c e) (λ z. row_out g c r (push z (op_instr op))) (expr_segs g d e) (λ k. line 1 (row_segs g d r k)) (expr_length g o e) (1 + row_length g o r) (expr_grows e)
          (both (λ z. push z (op_instr op)) (row_out g c r) (λ k. line 1 k) (row_segs g d r) 1 (row_length g o r) (one (λ o. op_instr op)) (row_grows r))

      pub args_grows : (es : Exprs) (ps : List Param) → Grows S (λ z. args_out g c es (map (λ p. range_told g p.kind) ps) z) (λ k. args_segs g d es ps k) (args_length g o es ps)
      args_grows no_exprs ps = none
      args_grows (exprs e es) [] = none
      args_grows (exprs e es) (p ∷ ps) =
          both (expr_out g c e) (λ z. args_out g c es (map (λ q. range_told g q.kind) ps) (range_out (range_told g p.kind) z)) (expr_segs g d e) (λ k. line (length (range_code (range_of g p.kind))) (args_segs g d es ps k))
          (expr_length g o e) (check_length (range_of g p.kind) + args_length g o es ps) (expr_grows e)
          (both (range_out (range_told g p.kind)) (λ z. args_out g c es (map (λ q. range_told g q.kind) ps) z) (λ k. line (length (range_code (range_of g p.kind))) k) (λ k. args_segs g d es ps k) (check_length (range_of g p.kind)) (args_length g o es ps)
          (range_grows (range_of g p.kind)) (args_grows es ps))

-- ---- stores

store_grows : {S : Type 0} (a : Area) (w : ℤ) (sh : Shape) → (low : ℤ) × (len : ℕ) × (sh ≡ array low len) → Grows S (store_at_out (told_area a) w (told_shape sh)) (λ k. line 1 k) 1
store_grows a w single h = absurd (never h.0 h.1 h.2)
  where
    never : (low : ℤ) (len : ℕ) → single ≡ array low len → ⊥
    never low len e = absurd cc
store_grows in_frame w (array low len) h = one (λ o. i.StoreLocalAt w (fit low) (fit (pos len)))
store_grows in_process w (array low len) h = one (λ o. i.StoreOwnAt w (fit low) (fit (pos len)))
store_grows in_monitor w (array low len) h = one (λ o. i.StoreMonAt w (fit low) (fit (pos len)))

-- a check of a range, and a store
checked : {S : Type 0} (r : Option Range) (f : Out → Out) → Grows S f (λ k. line 1 k) 1 → Grows S (λ o. f (range_out (option_map told_range r) o)) (λ k. line (length (range_code r) + 1) k) (check_length r + 1)
checked r f a =
    told_as (λ o. f (range_out (option_map told_range r) o)) (λ k. line (length (range_code r)) (line 1 k)) (λ k. line (length (range_code r) + 1) k) (check_length r + 1) (check_length r + 1)
    (λ k. line_line (length (range_code r)) 1 k) refl
    (both (range_out (option_map told_range r)) f (λ k. line (length (range_code r)) k) (λ k. line 1 k) (check_length r) 1 (range_grows r) a)

whole_grows : {S : Type 0} (s : Option Spot) → IsSingle s → Grows S (put_whole (told_spot s)) (λ k. line (length (range_code (range_of_spot s)) + 1) k) (check_length (range_of_spot s) + 1)
whole_grows None h = absurd h
whole_grows (Some s) h = checked s.place.range (λ o. push o (store_to (told_area s.area) (fit (pos s.place.word)))) (one (λ o. store_to (told_area s.area) (fit (pos s.place.word))))

part_grows : {S : Type 0} (s : Option Spot) → IsArray s → Grows S (put_part (told_spot s)) (λ k. line (length (range_code (range_of_spot s)) + 1) k) (check_length (range_of_spot s) + 1)
part_grows None h = absurd h
part_grows (Some s) h = checked s.place.range (store_at_out (told_area s.area) (fit (pos s.place.word)) (told_shape s.place.shape)) (store_grows s.area (fit (pos s.place.word)) s.place.shape h)

-- ---- statements

counting_grows : {S : Type 0} (low : ℤ) → Grows S (counting low) (λ k. line 2 k) 2
counting_grows low =
    told_as (counting low) (λ k. line 1 (line 1 k)) (λ k. line 2 k) 2 2 (λ k. line_line 1 1 k) refl
    (both (λ o. push o (i.Push low)) (λ o. push o (i.StoreLocal (fit (pos o.word)))) (λ k. line 1 k) (λ k. line 1 k) 1 1 (one (λ o. i.Push low)) (one (λ o. i.StoreLocal (fit (pos o.word)))))

stepped_grows : {S : Type 0} (w : ℤ) → Grows S (stepped w) (λ k. line 4 k) 4
stepped_grows {S} w =
    let two : Grows S (λ o. push (push o (i.LoadLocal w)) (i.Push (pos 1))) (λ k. line 1 (line 1 k)) 2 =
    both (λ o. push o (i.LoadLocal w)) (λ o. push o (i.Push (pos 1))) (λ k. line 1 k) (λ k. line 1 k) 1 1 (one (λ o. i.LoadLocal w)) (one (λ o. i.Push (pos 1))) in
    let three : Grows S (λ o. push (push (push o (i.LoadLocal w)) (i.Push (pos 1))) i.Add) (λ k. line 1 (line 1 (line 1 k))) 3 =
    both (λ o. push (push o (i.LoadLocal w)) (i.Push (pos 1))) (λ o. push o i.Add) (λ k. line 1 (line 1 k)) (λ k. line 1 k) 2 1 two (one (λ o. i.Add)) in
    told_as (stepped w) (λ k. line 1 (line 1 (line 1 (line 1 k)))) (λ k. line 4 k) 4 4 (λ k. ap (λ z. line 1 (line 1 z)) (line_line 1 1 k) ∙ ap (λ z. line 1 z) (line_line 1 2 k) ∙ line_line 1 3 k) refl
    (both (λ o. push (push (push o (i.LoadLocal w)) (i.Push (pos 1))) i.Add) (λ o. push o (i.StoreLocal w)) (λ k. line 1 (line 1 (line 1 k))) (λ k. line 1 k) 3 1 three (one (λ o. i.StoreLocal w)))

-- the store alone
whole_stores : {S : Type 0} (s : Option Spot) → IsSingle s → Grows S (store_whole (told_spot s)) (λ k. line 1 k) 1
whole_stores None h = absurd h
whole_stores (Some s) h = one (λ o. store_to (told_area s.area) (fit (pos s.place.word)))

part_stores : {S : Type 0} (s : Option Spot) → IsArray s → Grows S (store_part (told_spot s)) (λ k. line 1 k) 1
part_stores None h = absurd h
part_stores (Some s) h = store_grows s.area (fit (pos s.place.word)) s.place.shape h

empty_grows : {S : Type 0} (g : Program) (c : Scope) (r : Ref) (j : Instr) → SoundRef g c r → Grows S (λ o. store_out g c r (push o j)) (λ k. line 2 k) 2
empty_grows g c (whole x) j h =
    told_as (λ o. store_whole (told_spot (spot_of g c x)) (push o j)) (λ k. line 1 (line 1 k)) (λ k. line 2 k) 2 2 (λ k. line_line 1 1 k) refl
    (both (λ o. push o j) (store_whole (told_spot (spot_of g c x))) (λ k. line 1 k) (λ k. line 1 k) 1 1 (one (λ o. j)) (whole_stores (spot_of g c x) h.0))
empty_grows g c (part x e) j h =
    told_as (λ o. store_part (told_spot (spot_of g c x)) (push o j)) (λ k. line 1 (line 1 k)) (λ k. line 2 k) 2 2 (λ k. line_line 1 1 k) refl
    (both (λ o. push o j) (store_part (told_spot (spot_of g c x))) (λ k. line 1 k) (λ k. line 1 k) 1 1 (one (λ o. j)) (part_stores (spot_of g c x) h.0))

wait_grows : {S : Type 0} (g : Program) (c : Scope) (x : Name) (l n : Constant) → Grows S (stmt_out g c (wait x l n)) (λ k. Cons tree.Wait k) 2
wait_grows g c x l n =
    let j : Instr = i.Wait (condition_told g c x) (count_told g l) (count_told g n) in
    let k : Instr = i.Reenter (fit (pos (monitor_of c.owner))) in
    segment (λ o. o) (λ o. push (push o j) k) (λ k. k) (λ o. seg.Wait) tree.Wait 0 2 none (λ o. length-append (o.code ++ j ∷ []) (k ∷ []) ∙ ap (λ m. m + 1) (length-append o.code (j ∷ [])) ∙ omega arith) (λ z o h small. view_wait) (λ i after. refl)

assert_grows : {S : Type 0} (g : Program) (c d : Scope) (e : Expr) (m : ℕ) → Grows S (expr_out g c e) (expr_segs g d e) m → Grows S (stmt_out g c (assert e)) (stmt_segs g d (assert e)) (m + 3)
assert_grows g c d e m test =
    let skip : Out → Instr = λ o. i.JumpZero (fit (pos (length (expr_out g c e o).code + 2))) in
    let over_it : Out → Instr = λ o. i.Jump (fit (pos (length (expr_out g c e o).code + 3))) in
    let done : Out → Out = λ o. push (push (push (expr_out g c e o) (skip o)) (over_it o)) (i.Raise (pos 4)) in
    segment (expr_out g c e) done (expr_segs g d e) (λ o. fork [] (seg.Line 1 ∷ [])) (tree.Fork Nil (line 1 Nil)) m 3 test
    (λ o. length-append (((expr_out g c e o).code ++ skip o ∷ []) ++ over_it o ∷ []) (i.Raise (pos 4) ∷ []) ∙ ap (λ k. k + 1) (length-append ((expr_out g c e o).code ++ skip o ∷ []) (over_it o ∷ []) ∙ ap (λ k. k + 1) (length-append (expr_out g c e o).code (skip o ∷ []))) ∙ omega arith)
    (λ z o h small. view_fork [] (seg.Line 1 ∷ []) ∙ ap (λ x. tree.Fork Nil (Cons x Nil)) (view_line 1)) (λ i after. refl)

module _ (g : Program) (S : Type 0) (few : S → (t : Text) → number_of g t ≤ 65535) (may : Text → Type 0) where
  put_grows : (c d : Scope) (y : Option ℕ) (n : Names) (r : Ref) → Alike g (aiming c y) d → Sees g (aiming c y) n → SoundRef g (aiming c y) r → Grows S (put_out g c r) (put_segs g d r) (put_length n r)
  put_grows c d y n (whole x) a s h =
      told_as (put_out g c (whole x)) (λ k. line (length (range_code (range_of_spot (spot_of g c x))) + 1) k) (put_segs g d (whole x)) (check_length (range_of_spot (spot_of g c x)) + 1) (put_length n (whole x))
      (λ k. ap (λ t. line (length (range_code t) + 1) k) (sym (same_range g may (aiming c y) d x (spot_of g c x) a refl h.1))) (ap (λ t. check_length t + 1) (range_is g (aiming c y) n x s))
      (whole_grows (spot_of g c x) h.0)
  put_grows c d y n (part x e) a s h =
      told_as (put_out g c (part x e)) (λ k. line (length (range_code (range_of_spot (spot_of g c x))) + 1) k) (put_segs g d (part x e)) (check_length (range_of_spot (spot_of g c x)) + 1) (put_length n (part x e))
      (λ k. ap (λ t. line (length (range_code t) + 1) k) (sym (same_range g may (aiming c y) d x (spot_of g c x) a refl h.1))) (ap (λ t. check_length t + 1) (range_is g (aiming c y) n x s))
      (part_grows (spot_of g c x) h.0)

  index_grows : (c d : Scope) (o : Owner) (r : Ref) → c.owner ≡ d.owner → c.owner ≡ o → Grows S (index_out g c r) (index_segs g d r) (index_length g o r)
  index_grows c d o (whole x) a own = none
  index_grows c d o (part x e) a own = expr_grows g S few c d o a own e

  when_grows : (c d : Scope) (e : Expr) (a : Stmts) (m n : ℕ) → Grows S (expr_out g c e) (expr_segs g d e) m → Grows S (stmts_out g c a) (stmts_segs g d a) n → Grows S (stmt_out g c (when e a)) (stmt_segs g d (when e a)) (m + (1 + n + 1))
  when_grows c d e a m n test arm =
      let first : Out → Out = λ o. stmts_out g c a (choice (expr_out g c e o)) in
      let done : Out → Out = λ o. patched (push (first o) (i.Jump (fit (pos (length (first o).code + 1))))) (length (expr_out g c e o).code) (i.JumpZero (fit (pos (length (first o).code + 1)))) in
      let long_first : (o : Out) → length (first o).code ≡ length (expr_out g c e o).code + 1 + n = λ o. arm.longer (choice (expr_out g c e o)) ∙ ap (λ k. k + n) (length-append (expr_out g c e o).code (i.JumpZero (pos 0) ∷ [])) in
      let long_done : (o : Out) → length (done o).code ≡ length (first o).code + 1 = λ o.
      length-set ((first o).code ++ i.Jump (fit (pos (length (first o).code + 1))) ∷ []) (length (expr_out g c e o).code) (i.JumpZero (fit (pos (length (first o).code + 1))))
      ∙ length-append (first o).code (i.Jump (fit (pos (length (first o).code + 1))) ∷ []) in
      segment (expr_out g c e) done (expr_segs g d e) (λ o. fork (closed (first o)) []) (tree.Fork (stmts_segs g d a Nil) Nil) m (1 + n + 1) test
      (λ o. let e0 = long_first o in let e1 = long_done o in omega arith)
      (λ z o h small.
      let e1 : length (done o).code ≡ length (first o).code + 1 = long_done o in
      let less : length (first o).code ≤ 4294967295 = omega arith in
      view_fork (closed (first o)) [] ∙ ap (λ x. tree.Fork x Nil) (part_tree (stmts_out g c a) (stmts_segs g d a) n arm z (choice (expr_out g c e o)) refl refl less))
      (λ i after. refl)

  when_else_grows : (c d : Scope) (e : Expr) (a b : Stmts) (m n l : ℕ) → Grows S (expr_out g c e) (expr_segs g d e) m → Grows S (stmts_out g c a) (stmts_segs g d a) n → Grows S (stmts_out g c b) (stmts_segs g d b) l
      → Grows S (stmt_out g c (when_else e a b)) (stmt_segs g d (when_else e a b)) (m + (1 + n + 1 + l))
  when_else_grows c d e a b m n l test arm other =
      let first : Out → Out = λ o. stmts_out g c a (choice (expr_out g c e o)) in
      let start : Out → Out = λ o. between (length (expr_out g c e o).code) (first o) in
      let second : Out → Out = λ o. stmts_out g c b (start o) in
      let done : Out → Out = λ o. patched (second o) (length (first o).code) (i.Jump (fit (pos (length (second o).code)))) in
      let long_first : (o : Out) → length (first o).code ≡ length (expr_out g c e o).code + 1 + n = λ o. arm.longer (choice (expr_out g c e o)) ∙ ap (λ k. k + n) (length-append (expr_out g c e o).code (i.JumpZero (pos 0) ∷ [])) in
      let long_start : (o : Out) → length (start o).code ≡ length (first o).code + 1 = λ o.
      length-set ((first o).code ++ i.Jump (pos 0) ∷ []) (length (expr_out g c e o).code) (i.JumpZero (fit (pos (length (first o).code + 1)))) ∙ length-append (first o).code (i.Jump (pos 0) ∷ []) in
      let long_second : (o : Out) → length (second o).code ≡ length (first o).code + 1 + l = λ o. other.longer (start o) ∙ ap (λ k. k + l) (long_start o) in
      let long_done : (o : Out) → length (done o).code ≡ length (second o).code = λ o. length-set (second o).code (length (first o).code) (i.Jump (fit (pos (length (second o).code)))) in
      segment (expr_out g c e) done (expr_segs g d e) (λ o. fork (closed (first o)) (closed (second o))) (tree.Fork (stmts_segs g d a Nil) (stmts_segs g d b Nil)) m (1 + n + 1 + l) test
      (λ o. let e0 = long_first o in let e1 = long_second o in let e2 = long_done o in omega arith)
      (λ z o h small.
      let e1 : length (done o).code ≡ length (second o).code = long_done o in
      let e2 : length (second o).code ≡ length (first o).code + 1 + l = long_second o in
      let less_first : length (first o).code ≤ 4294967295 = omega arith in
      let less_second : length (second o).code ≤ 4294967295 = omega arith in
      view_fork (closed (first o)) (closed (second o))
      ∙ ap (λ x. tree.Fork x (tree_of (map view (closed (second o))))) (part_tree (stmts_out g c a) (stmts_segs g d a) n arm z (choice (expr_out g c e o)) refl refl less_first)
      ∙ ap (λ x. tree.Fork (stmts_segs g d a Nil) x) (part_tree (stmts_out g c b) (stmts_segs g d b) l other z (start o) refl refl less_second))
      (λ i after. refl)

  exit_grows : (c d : Scope) (e : Expr) (m : ℕ) → Grows S (expr_out g c e) (expr_segs g d e) m → Grows S (stmt_out g c (exit_when e)) (stmt_segs g d (exit_when e)) (m + 1)
  exit_grows c d e m test =
      segment (expr_out g c e) (λ o. push (expr_out g c e o) open_exit) (expr_segs g d e) (λ o. seg.Exit) tree.Exit m 1 test (λ o. length-append (expr_out g c e o).code (open_exit ∷ [])) (λ z o h small. view_exit) (λ i after. refl)

  loop_grows : (c d : Scope) (x : Name) (low high : Constant) (ss : Stmts) (n : ℕ) → (S → Fit (constant_value g low)) → (S → Fit (constant_value g high)) → (S → Fit (pos (turns_of (constant_value g low) (constant_value g high))))
      → ((w : ℕ) → Grows S (stmts_out g (within c x w) ss) (stmts_segs g d ss) n) → Grows S (stmt_out g c (loop x low high ss)) (stmt_segs g d (loop x low high ss)) (3 + n + 5)
  loop_grows c d x low high ss n fits_low fits_high fits_turns body =
      let turns : ℕ = turns_between g low high in
      let count : Out → Out = counting (worth g low) in
      let start : Out → Out = λ o. turning turns (count o) in
      let round : Out → Out = λ o. stepped (fit (pos o.word)) (stmts_out g (within c x o.word) ss (start o)) in
      let last : Out → Out = λ o. push (round o) (i.Repeat (fit (pos (length (start o).code)))) in
      let done : Out → Out = λ o. aim (length (start o).code) (last o) in
      let turn : (w : ℕ) → Grows S (λ z. stepped (fit (pos w)) (stmts_out g (within c x w) ss z)) (λ k. stmts_segs g d ss (line 4 k)) (n + 4) = λ w.
      both (stmts_out g (within c x w) ss) (stepped (fit (pos w))) (stmts_segs g d ss) (λ k. line 4 k) n 4 (body w) (stepped_grows (fit (pos w))) in
      let long_start : (o : Out) → length (start o).code ≡ length (count o).code + 1 = λ o. length-append (count o).code (i.Repeats (fit (pos turns)) ∷ []) in
      let long_round : (o : Out) → length (round o).code ≡ length (start o).code + (n + 4) = λ o. (turn o.word).longer (start o) in
      let long_last : (o : Out) → length (last o).code ≡ length (round o).code + 1 = λ o. length-append (round o).code (i.Repeat (fit (pos (length (start o).code))) ∷ []) in
      let long_done : (o : Out) → length (done o).code ≡ length (last o).code = λ o. length_aims (fit (pos (length (last o).code))) (length (start o).code) (length (last o).code - length (start o).code) (last o).code in
      let capped : S → min turns 4294967295 ≡ turns_of (constant_value g low) (constant_value g high) = λ z.
      let same : turns ≡ turns_of (constant_value g low) (constant_value g high) = ap (λ v. turns_of v (worth g high)) (fits_low z) ∙ ap (λ v. turns_of (constant_value g low) v) (fits_high z) in
      let low_turns : turns_of (constant_value g low) (constant_value g high) ≤ 2147483647 = small_of (turns_of (constant_value g low) (constant_value g high)) (fits_turns z) in omega arith in
      told_as (stmt_out g c (loop x low high ss)) (stmt_segs g d (loop x low high ss)) (stmt_segs g d (loop x low high ss)) (2 + (n + 6)) (3 + n + 5) (λ k. refl) (omega arith)
      (segment count done (λ k. line 2 k) (λ o. rep (min turns 4294967295) (closed (round o))) (tree.Rep (turns_of (constant_value g low) (constant_value g high)) (stmts_segs g d ss (line 4 Nil))) 2 (n + 6) (counting_grows (worth g low))
      (λ o. let e0 = long_start o in let e1 = long_round o in let e2 = long_last o in let e3 = long_done o in omega arith)
      (λ z o h small.
      let e2 : length (last o).code ≡ length (round o).code + 1 = long_last o in
      let e3 : length (done o).code ≡ length (last o).code = long_done o in
      let less : length (round o).code ≤ 4294967295 = omega arith in
      view_rep (min turns 4294967295) (closed (round o)) ∙ ap (λ k. tree.Rep k (tree_of (map view (closed (round o))))) (capped z)
      ∙ ap (λ k. tree.Rep (turns_of (constant_value g low) (constant_value g high)) k) (part_tree (λ z. stepped (fit (pos o.word)) (stmts_out g (within c x o.word) ss z)) (λ k. stmts_segs g d ss (line 4 k)) (n + 4) (turn o.word) z (start o) refl refl less))
      (λ i after. refl))

  -- a call of an entry
  entry_grows : (c d : Scope) (y : Option ℕ) (n : Names) (m e : Name) (es : Exprs) → Alike g (aiming c y) d → Sees g (aiming c y) n
      → Grows S (λ o. call_out (told_callee g (entry_in g m e)) (λ rs. args_out g c es rs o) o) (λ k. call_segs g (entry_in g m e) (λ ps z. args_segs g d es ps z) k) (call_length (entry_in g m e) (λ ps. args_length g n.owner es ps))
  entry_grows c d y n m e es a s = named_grows g S few c d n.owner a.owner s.owner (entry_in g m e) (entry_in g m e) (entry_in g m e) es refl refl (λ ps. args_grows g S few c d n.owner a.owner s.owner es ps)

  mutual
    pub stmt_grows : (s : Stmt) (c d : Scope) (y : Option ℕ) (n : Names) → Alike g (aiming c y) d → Sees g (aiming c y) n → (S → BoundsFit g s) → Sound g may (aiming c y) s → Grows S (stmt_out g c s) (stmt_segs g d s) (stmt_length g n s)
    stmt_grows (assign r e) c d y n a s f h =
        both (index_out g c r) (λ o. put_out g c r (expr_out g c e o)) (index_segs g d r) (λ k. expr_segs g d e (put_segs g d r k)) (index_length g n.owner r) (expr_length g n.owner e + put_length n r) (index_grows c d n.owner r a.owner s.owner)
        (both (expr_out g c e) (put_out g c r) (expr_segs g d e) (put_segs g d r) (expr_length g n.owner e) (put_length n r) (expr_grows g S few c d n.owner a.owner s.owner e) (put_grows c d y n r a s h.1))
    stmt_grows (assign_entry r m e es) c d y n a s f h =
        both (index_out g c r) (λ o. put_out g c r (call_out (told_callee g (entry_in g m e)) (λ rs. args_out g c es rs o) o)) (index_segs g d r) (λ k. call_segs g (entry_in g m e) (λ ps z. args_segs g d es ps z) (put_segs g d r k))
        (index_length g n.owner r) (call_length (entry_in g m e) (λ ps. args_length g n.owner es ps) + put_length n r) (index_grows c d n.owner r a.owner s.owner)
        (both (λ o. call_out (told_callee g (entry_in g m e)) (λ rs. args_out g c es rs o) o) (put_out g c r) (λ k. call_segs g (entry_in g m e) (λ ps z. args_segs g d es ps z) k) (put_segs g d r)
        (call_length (entry_in g m e) (λ ps. args_length g n.owner es ps)) (put_length n r) (entry_grows c d y n m e es a s) (put_grows c d y n r a s h.1))
    stmt_grows (assign_empty r x) c d y n a s f h =
        both (index_out g c r) (λ o. store_out g c r (push o (i.Empty (condition_told g c x)))) (index_segs g d r) (λ k. line 2 k) (index_length g n.owner r) 2 (index_grows c d n.owner r a.owner s.owner) (empty_grows g c r (i.Empty (condition_told g c x)) h.1)
    stmt_grows (perform p es) c d y n a s f h =
        named_grows g S few c d n.owner a.owner s.owner (routine_in g c.owner p) (routine_in g d.owner p) (routine_in g n.owner p) es (ap (λ r. routine_in g r p) a.owner) (ap (λ r. routine_in g r p) s.owner) (λ ps. args_grows g S few c d n.owner a.owner s.owner es ps)
    stmt_grows (perform_entry m e es) c d y n a s f h = entry_grows c d y n m e es a s
    stmt_grows (when e p) c d y n a s f h = when_grows c d e p (expr_length g n.owner e) (stmts_length g n p) (expr_grows g S few c d n.owner a.owner s.owner e) (stmts_grows p c d y n a s f h.1)
    stmt_grows (when_else e p q) c d y n a s f h =
        when_else_grows c d e p q (expr_length g n.owner e) (stmts_length g n p) (stmts_length g n q) (expr_grows g S few c d n.owner a.owner s.owner e) (stmts_grows p c d y n a s (λ z. (f z).0) h.1) (stmts_grows q c d y n a s (λ z. (f z).1) h.2)
    stmt_grows (loop x low high ss) c d y n a s f h =
        loop_grows c d x low high ss (stmts_length g (inside n x) ss) (λ z. (f z).0) (λ z. (f z).1) (λ z. (f z).2)
        (λ w. stmts_grows ss (within c x w) d (Some 0) (inside n x) (alike_inner g (aiming c y) d x w 0 a) (sees_inside g (aiming c y) n x w 0 s) (λ z. (f z).3) (h.1 w 0))
    stmt_grows (exit_when e) c d y n a s f h = exit_grows c d e (expr_length g n.owner e) (expr_grows g S few c d n.owner a.owner s.owner e)
    stmt_grows (get x r) c d y n a s f h =
        both (index_out g c r) (λ o. put_out g c r (push o (i.In (fit (pos (device_number g x)))))) (index_segs g d r) (λ k. line 1 (put_segs g d r k)) (index_length g n.owner r) (1 + put_length n r) (index_grows c d n.owner r a.owner s.owner)
        (both (λ o. push o (i.In (fit (pos (device_number g x))))) (put_out g c r) (λ k. line 1 k) (put_segs g d r) 1 (put_length n r) (one (λ o. i.In (fit (pos (device_number g x))))) (put_grows c d y n r a s h.1))
    stmt_grows (put x e) c d y n a s f h =
        both (expr_out g c e) (λ o. push o (i.Out (fit (pos (device_number g x))))) (expr_segs g d e) (λ k. line 1 k) (expr_length g n.owner e) 1 (expr_grows g S few c d n.owner a.owner s.owner e) (one (λ o. i.Out (fit (pos (device_number g x)))))
    stmt_grows (wait x l m) c d y n a s f h = wait_grows g c x l m
    stmt_grows (signal x) c d y n a s f h = one (λ o. i.Signal (condition_told g c x))
    stmt_grows (broadcast x) c d y n a s f h = one (λ o. i.Broadcast (condition_told g c x))
    stmt_grows (except m) c d y n a s f h = one (λ o. i.Raise (count_told g m))
    stmt_grows (assert e) c d y n a s f h = assert_grows g c d e (expr_length g n.owner e) (expr_grows g S few c d n.owner a.owner s.owner e)

    pub stmts_grows : (ss : Stmts) (c d : Scope) (y : Option ℕ) (n : Names) → Alike g (aiming c y) d → Sees g (aiming c y) n → (S → AllBoundsFit g ss) → SoundAll g may (aiming c y) ss → Grows S (stmts_out g c ss) (stmts_segs g d ss) (stmts_length g n ss)
    stmts_grows no_stmts c d y n a s f h = none
    stmts_grows (stmts x xs) c d y n a s f h =
        both (stmt_out g c x) (stmts_out g c xs) (stmt_segs g d x) (stmts_segs g d xs) (stmt_length g n x) (stmts_length g n xs) (stmt_grows x c d y n a s (λ z. (f z).0) h.0) (stmts_grows xs c d y n a s (λ z. (f z).1) h.1)

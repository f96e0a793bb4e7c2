-- What is made of a text: each row of its tree fits its count, where the code is short.
use Rattle.std.proofs.Common.{◌≡◌, ◌<◌, ◌+◌, ◌-◌, ◌^◌, min, ℕ, List, [], ◌∷◌, length, Option, Some, None, ℤ, pos, refl, sym, subst, arith}
use Rattle.std.proofs.lemmas.List.{length-append, length-set}
use Rattle.syntax_tree.specs.Plain.{Name, Answers, Constant, Expr, literal, truth, variable, element, call, minus, negation, paren, row, Exprs, no_exprs, exprs, Operands, no_operands, operand, Ref, whole, part, Stmt, assign, assign_entry, assign_empty, perform, perform_entry, when, when_else, loop, exit_when, get, put, wait, signal, broadcast, except, assert, Stmts, no_stmts, stmts, Program, Routine}
use Rattle.base.specs.Words.{of_bool}
use Rattle.source_semantics.specs.Names.{device_number}
use Rattle.machine_semantics.specs.Trees as tree
use Rattle.machine_isa.specs.declared.instr.Instr.{Instr}
use Rattle.machine_isa.specs.declared.instr.Instr.TheVariants as i
use Rattle.code_spec.specs.Layout.{Owner, by_program, by_process, by_monitor, Scope, spot_of}
use Rattle.code_spec.specs.Numbering.{routine_in, entry_in}
use Rattle.code_spec.specs.Code.{op_instr, constant_named}
use Rattle.code_spec.specs.Emits.{monitor_of}
use Rattle.image_format.specs.TreeBytes.{InnerRowsFit, RowsFit}
use Rattle.image_format.specs.View.{view, views}
use Rattle.image_format.specs.Kept.{fork, rep}
use Rattle.image_format.specs.declared.seg.Seg.{Seg}
use Rattle.image_format.specs.declared.seg.Seg.TheVariants as seg
use Rattle.codegen_spec.specs.declared.var_location.Area.{Area}
use Rattle.codegen_spec.specs.declared.var_location.Area.TheVariants as area
use Rattle.codegen_spec.specs.declared.var_location.VarShape.{VarShape}
use Rattle.codegen_spec.specs.declared.var_location.VarShape.TheVariants as shape
use Rattle.codegen_spec.specs.declared.var_location.ValueRange.{ValueRange}
use Rattle.codegen_spec.specs.declared.var_location.VarLocation.{VarLocation}
use Rattle.codegen_spec.specs.declared.var_location.Callee.{Callee}
use Rattle.codegen_spec.specs.Told.{fit, range_told, told_callee, told_spot, value_told, within}
use Rattle.codegen_spec.specs.Made.{Out, aim, args_out, asserting, between, call_out, choice, closed, condition_told, count_told, counting, expr_out, index_out, load_at_told, load_told, open_exit, patched, push, put_out, put_part, put_whole, range_out, row_out, stepped, stmt_out, stmts_out, store_at_out, store_out, store_part, store_to, store_whole, turning, turns_between, waiting, worth}
use Rattle.codegen_spec.specs.Parts.{answer_out, entered, inner_out, left, routine_out}
use Rattle.codegen_law.proofs.Growth.{length_aims}
use Rattle.codegen_law.proofs.Joins.{view_call, view_exit, view_fork, view_line, view_rep, view_stay, view_wait}
use Rattle.compile.proofs.Covered.{Counts, IsCovered, begins, both, closed_fits, none, one, segment}

range_counts : (r : Option ValueRange) → Counts (range_out r)
range_counts None = none
range_counts (Some r) = one (λ o. i.Range r.low r.high)

-- one instruction more, behind what is longer already
more : (o : Out) (j : Instr) → length o.code < length (push o j).code
more o j = omega (arith, length-append o.code (j ∷ []))

-- a tree with no segments
empty_fits : RowsFit tree.Nil
empty_fits = (omega arith, tt)

fork_fits : (a b : List Seg) → RowsFit (views a) → RowsFit (views b) → InnerRowsFit (view (fork a b))
fork_fits a b first second = subst InnerRowsFit (sym (view_fork a b)) (first, second)

module _ (g : Program) where
  -- ---- expressions

  call_counts : (k : Option Callee) (args : List (Option ValueRange) → Out → Out) → ((rs : List (Option ValueRange)) → Counts (args rs)) → Counts (λ o. call_out k (λ rs. args rs o) o)
  call_counts None args a = none
  call_counts (Some k) args a =
      segment (args k.ranges) (λ o. push (args k.ranges o) (i.Call (fit (pos k.number)))) (λ o. seg.Call (min k.number 65535)) (a k.ranges)
      (λ o. more (args k.ranges o) (i.Call (fit (pos k.number)))) (λ o small. subst InnerRowsFit (sym (view_call (min k.number 65535))) tt)

  module _ (c : Scope) where
    followed : (f : Out → Out) (j : Instr) → Counts f → Counts (λ o. push (f o) j)
    followed f j a = both f (λ o. push o j) a (one (λ o. j))

    mutual
      expr_counts : (e : Expr) → Counts (expr_out g c e)
      expr_counts (literal n) = one (λ o. i.Push (fit (pos n)))
      expr_counts (truth b) = one (λ o. i.Push (of_bool b))
      expr_counts (variable x) = one (λ o. load_told (told_spot (spot_of g c x)) (fit (value_told (constant_named g x))))
      expr_counts (element x e) = followed (expr_out g c e) (load_at_told (told_spot (spot_of g c x))) (expr_counts e)
      expr_counts (call f es) = call_counts (told_callee g (routine_in g c.owner f)) (args_out g c es) (args_counts es)
      expr_counts (minus e) = followed (expr_out g c e) i.Neg (expr_counts e)
      expr_counts (negation e) = followed (expr_out g c e) i.Not (expr_counts e)
      expr_counts (paren e) = expr_counts e
      expr_counts (row e r) = both (expr_out g c e) (row_out g c r) (expr_counts e) (row_counts r)

      row_counts : (r : Operands) → Counts (row_out g c r)
      row_counts no_operands = none
      row_counts (operand op e r) = both (λ o. push (expr_out g c e o) (op_instr op)) (row_out g c r) (followed (expr_out g c e) (op_instr op) (expr_counts e)) (row_counts r)

      args_counts : (es : Exprs) (rs : List (Option ValueRange)) → Counts (args_out g c es rs)
      args_counts no_exprs rs = none
      args_counts (exprs e es) [] = none
      args_counts (exprs e es) (r ∷ rs) =
          both (λ o. range_out r (expr_out g c e o)) (args_out g c es rs) (both (expr_out g c e) (range_out r) (expr_counts e) (range_counts r)) (args_counts es rs)

    -- ---- stores

    index_counts : (r : Ref) → Counts (index_out g c r)
    index_counts (whole x) = none
    index_counts (part x e) = expr_counts e

  store_at_counts : (a : Area) (w : ℤ) (s : VarShape) → Counts (store_at_out a w s)
  store_at_counts a w shape.Single = none
  store_at_counts area.Frame w (shape.Array low len) = one (λ o. i.StoreLocalAt w low len)
  store_at_counts area.Process w (shape.Array low len) = one (λ o. i.StoreOwnAt w low len)
  store_at_counts area.Monitor w (shape.Array low len) = one (λ o. i.StoreMonAt w low len)

  put_whole_counts : (s : Option VarLocation) → Counts (put_whole s)
  put_whole_counts None = none
  put_whole_counts (Some s) = both (range_out s.range) (λ o. push o (store_to s.area s.word)) (range_counts s.range) (one (λ o. store_to s.area s.word))

  put_part_counts : (s : Option VarLocation) → Counts (put_part s)
  put_part_counts None = none
  put_part_counts (Some s) = both (range_out s.range) (store_at_out s.area s.word s.shape) (range_counts s.range) (store_at_counts s.area s.word s.shape)

  store_whole_counts : (s : Option VarLocation) → Counts (store_whole s)
  store_whole_counts None = none
  store_whole_counts (Some s) = one (λ o. store_to s.area s.word)

  store_part_counts : (s : Option VarLocation) → Counts (store_part s)
  store_part_counts None = none
  store_part_counts (Some s) = store_at_counts s.area s.word s.shape

  put_counts : (c : Scope) (r : Ref) → Counts (put_out g c r)
  put_counts c (whole x) = put_whole_counts (told_spot (spot_of g c x))
  put_counts c (part x e) = put_part_counts (told_spot (spot_of g c x))

  store_counts : (c : Scope) (r : Ref) → Counts (store_out g c r)
  store_counts c (whole x) = store_whole_counts (told_spot (spot_of g c x))
  store_counts c (part x e) = store_part_counts (told_spot (spot_of g c x))

  -- ---- statements

  -- what is made with segments of its own
  tree_fits : (f : Out → Out) → Counts f → (o : Out) → o.segs ≡ [] → o.from ≡ length o.code → length (f o).code < 2 ^ 32 → RowsFit (views (closed (f o)))
  tree_fits f a o empty here small = closed_fits (f o) (a.keeps o (begins o empty here)) small

  when_counts : (c : Scope) (e : Expr) (a : Stmts) → Counts (stmts_out g c a) → Counts (stmt_out g c (when e a))
  when_counts c e a arm =
      let test : Out → Out = expr_out g c e in
      let first : Out → Out = λ o. stmts_out g c a (choice (test o)) in
      let last : Out → Out = λ o. push (first o) (i.Jump (fit (pos (length (first o).code + 1)))) in
      let done : Out → Out = λ o. patched (last o) (length (test o).code) (i.JumpZero (fit (pos (length (first o).code + 1)))) in
      let long_done : (o : Out) → length (done o).code ≡ length (last o).code = λ o. length-set (last o).code (length (test o).code) (i.JumpZero (fit (pos (length (first o).code + 1)))) in
      segment test done (λ o. fork (closed (first o)) []) (expr_counts c e)
      (λ o. omega (arith, long_done o, more (first o) (i.Jump (fit (pos (length (first o).code + 1)))), arm.grows (choice (test o)), more (test o) (i.JumpZero (pos 0))))
      (λ o small. fork_fits (closed (first o)) []
      (tree_fits (stmts_out g c a) arm (choice (test o)) refl refl (omega (arith, long_done o, more (first o) (i.Jump (fit (pos (length (first o).code + 1)))), small))) empty_fits)

  when_else_counts : (c : Scope) (e : Expr) (a b : Stmts) → Counts (stmts_out g c a) → Counts (stmts_out g c b) → Counts (stmt_out g c (when_else e a b))
  when_else_counts c e a b arm other =
      let test : Out → Out = expr_out g c e in
      let first : Out → Out = λ o. stmts_out g c a (choice (test o)) in
      let start : Out → Out = λ o. between (length (test o).code) (first o) in
      let second : Out → Out = λ o. stmts_out g c b (start o) in
      let done : Out → Out = λ o. patched (second o) (length (first o).code) (i.Jump (fit (pos (length (second o).code)))) in
      let long_start : (o : Out) → length (start o).code ≡ length (push (first o) (i.Jump (pos 0))).code = λ o.
      length-set (push (first o) (i.Jump (pos 0))).code (length (test o).code) (i.JumpZero (fit (pos (length (first o).code + 1)))) in
      let long_done : (o : Out) → length (done o).code ≡ length (second o).code = λ o. length-set (second o).code (length (first o).code) (i.Jump (fit (pos (length (second o).code)))) in
      let longer : (o : Out) → length (first o).code < length (done o).code = λ o. omega (arith, long_done o, other.grows (start o), long_start o, more (first o) (i.Jump (pos 0))) in
      segment test done (λ o. fork (closed (first o)) (closed (second o))) (expr_counts c e)
      (λ o. omega (arith, longer o, arm.grows (choice (test o)), more (test o) (i.JumpZero (pos 0))))
      (λ o small. fork_fits (closed (first o)) (closed (second o))
      (tree_fits (stmts_out g c a) arm (choice (test o)) refl refl (omega (arith, longer o, small)))
      (tree_fits (stmts_out g c b) other (start o) refl refl (omega (arith, long_done o, small))))

  counting_counts : (low : ℤ) → Counts (counting low)
  counting_counts low = both (λ o. push o (i.Push low)) (λ o. push o (i.StoreLocal (fit (pos o.word)))) (one (λ o. i.Push low)) (one (λ o. i.StoreLocal (fit (pos o.word))))

  stepped_counts : (w : ℤ) → Counts (stepped w)
  stepped_counts w =
      both (λ o. push (push (push o (i.LoadLocal w)) (i.Push (pos 1))) i.Add) (λ o. push o (i.StoreLocal w))
      (both (λ o. push (push o (i.LoadLocal w)) (i.Push (pos 1))) (λ o. push o i.Add)
      (both (λ o. push o (i.LoadLocal w)) (λ o. push o (i.Push (pos 1))) (one (λ o. i.LoadLocal w)) (one (λ o. i.Push (pos 1)))) (one (λ o. i.Add)))
      (one (λ o. i.StoreLocal w))

  loop_counts : (c : Scope) (x : Name) (low high : Constant) (ss : Stmts) → ((w : ℕ) → Counts (stmts_out g (within c x w) ss)) → Counts (stmt_out g c (loop x low high ss))
  loop_counts c x low high ss body =
      let turns : ℕ = turns_between g low high in
      let count : Out → Out = counting (worth g low) in
      let start : Out → Out = λ o. turning turns (count o) in
      let turn : ℕ → Out → Out = λ w z. stepped (fit (pos w)) (stmts_out g (within c x w) ss z) in
      let turn_counts : (w : ℕ) → Counts (turn w) = λ w. both (stmts_out g (within c x w) ss) (stepped (fit (pos w))) (body w) (stepped_counts (fit (pos w))) in
      let round : Out → Out = λ o. turn o.word (start o) in
      let last : Out → Out = λ o. push (round o) (i.Repeat (fit (pos (length (start o).code)))) in
      let done : Out → Out = λ o. aim (length (start o).code) (last o) in
      let long_done : (o : Out) → length (done o).code ≡ length (last o).code = λ o. length_aims (fit (pos (length (last o).code))) (length (start o).code) (length (last o).code - length (start o).code) (last o).code in
      let longer : (o : Out) → length (round o).code < length (done o).code = λ o. omega (arith, long_done o, more (round o) (i.Repeat (fit (pos (length (start o).code))))) in
      segment count done (λ o. rep (min turns 4294967295) (closed (round o))) (counting_counts (worth g low))
      (λ o. omega (arith, longer o, (turn_counts o.word).grows (start o), more (count o) (i.Repeats (fit (pos turns)))))
      (λ o small. subst InnerRowsFit (sym (view_rep (min turns 4294967295) (closed (round o))))
      (tree_fits (turn o.word) (turn_counts o.word) (start o) refl refl (omega (arith, longer o, small))))

  exit_counts : (c : Scope) (e : Expr) → Counts (stmt_out g c (exit_when e))
  exit_counts c e =
      segment (expr_out g c e) (λ o. push (expr_out g c e o) open_exit) (λ o. seg.Exit) (expr_counts c e) (λ o. more (expr_out g c e o) open_exit) (λ o small. subst InnerRowsFit (sym view_exit) tt)

  wait_counts : (x limit number : ℤ) (m : ℕ) → Counts (waiting x limit number m)
  wait_counts x limit number m =
      segment (λ o. o) (λ o. push (push o (i.Wait x limit number)) (i.Reenter (fit (pos m)))) (λ o. seg.Wait) none
      (λ o. omega (arith, more o (i.Wait x limit number), more (push o (i.Wait x limit number)) (i.Reenter (fit (pos m))))) (λ o small. subst InnerRowsFit (sym view_wait) tt)

  assert_counts : Counts asserting
  assert_counts =
      let one_more : Out → Out = λ o. push o (i.JumpZero (fit (pos (length o.code + 2)))) in
      let two_more : Out → Out = λ o. push (one_more o) (i.Jump (fit (pos (length o.code + 3)))) in
      segment (λ o. o) (λ o. push (two_more o) (i.Raise (pos 4))) (λ o. fork [] (seg.Line 1 ∷ [])) none
      (λ o. omega (arith, more o (i.JumpZero (fit (pos (length o.code + 2)))), more (one_more o) (i.Jump (fit (pos (length o.code + 3)))), more (two_more o) (i.Raise (pos 4))))
      (λ o small. fork_fits [] (seg.Line 1 ∷ []) empty_fits raised)
    where
      raised : RowsFit (views (seg.Line 1 ∷ []))
      raised = (omega arith, (subst InnerRowsFit (sym (view_line 1)) tt, tt))

  entry_counts : (c : Scope) (m e : Name) (es : Exprs) → Counts (λ o. call_out (told_callee g (entry_in g m e)) (λ rs. args_out g c es rs o) o)
  entry_counts c m e es = call_counts (told_callee g (entry_in g m e)) (args_out g c es) (args_counts c es)

  mutual
    stmt_counts : (s : Stmt) (c : Scope) → Counts (stmt_out g c s)
    stmt_counts (assign r e) c =
        both (index_out g c r) (λ o. put_out g c r (expr_out g c e o)) (index_counts c r) (both (expr_out g c e) (put_out g c r) (expr_counts c e) (put_counts c r))
    stmt_counts (assign_entry r m e es) c =
        both (index_out g c r) (λ o. put_out g c r (call_out (told_callee g (entry_in g m e)) (λ rs. args_out g c es rs o) o)) (index_counts c r)
        (both (λ o. call_out (told_callee g (entry_in g m e)) (λ rs. args_out g c es rs o) o) (put_out g c r) (entry_counts c m e es) (put_counts c r))
    stmt_counts (assign_empty r x) c =
        both (λ o. push (index_out g c r o) (i.Empty (condition_told g c x))) (store_out g c r) (followed c (index_out g c r) (i.Empty (condition_told g c x)) (index_counts c r)) (store_counts c r)
    stmt_counts (perform p es) c = call_counts (told_callee g (routine_in g c.owner p)) (args_out g c es) (args_counts c es)
    stmt_counts (perform_entry m e es) c = entry_counts c m e es
    stmt_counts (when e p) c = when_counts c e p (stmts_counts p c)
    stmt_counts (when_else e p q) c = when_else_counts c e p q (stmts_counts p c) (stmts_counts q c)
    stmt_counts (loop x low high ss) c = loop_counts c x low high ss (λ w. stmts_counts ss (within c x w))
    stmt_counts (exit_when e) c = exit_counts c e
    stmt_counts (get x r) c =
        both (λ o. push (index_out g c r o) (i.In (fit (pos (device_number g x))))) (put_out g c r) (followed c (index_out g c r) (i.In (fit (pos (device_number g x)))) (index_counts c r)) (put_counts c r)
    stmt_counts (put x e) c = followed c (expr_out g c e) (i.Out (fit (pos (device_number g x)))) (expr_counts c e)
    stmt_counts (wait x l m) c = wait_counts (condition_told g c x) (count_told g l) (count_told g m) (monitor_of c.owner)
    stmt_counts (signal x) c = one (λ o. i.Signal (condition_told g c x))
    stmt_counts (broadcast x) c = one (λ o. i.Broadcast (condition_told g c x))
    stmt_counts (except m) c = one (λ o. i.Raise (count_told g m))
    stmt_counts (assert e) c = both (expr_out g c e) asserting (expr_counts c e) assert_counts

    pub stmts_counts : (ss : Stmts) (c : Scope) → Counts (stmts_out g c ss)
    stmts_counts no_stmts c = none
    stmts_counts (stmts x xs) c = both (stmt_out g c x) (stmts_out g c xs) (stmt_counts x c) (stmts_counts xs c)

  -- ---- parts

  pub stmts_fit : (ss : Stmts) (c : Scope) (o : Out) → o.segs ≡ [] → o.from ≡ length o.code → length (stmts_out g c ss o).code < 2 ^ 32 → RowsFit (views (closed (stmts_out g c ss o)))
  stmts_fit ss c o empty here small = tree_fits (stmts_out g c ss) (stmts_counts ss c) o empty here small

  answer_counts : (c : Scope) (a : Option Answers) → Counts (answer_out g c a)
  answer_counts c None = none
  answer_counts c (Some a) = both (expr_out g c a.value) (range_out (range_told g a.kind)) (expr_counts c a.value) (range_counts (range_told g a.kind))

  inner_counts : (c : Scope) (r : Routine) → Counts (inner_out g c r)
  inner_counts c r = both (stmts_out g c r.body) (answer_out g c r.answers) (stmts_counts r.body c) (answer_counts c r.answers)

  stay_covered : (m : ℕ) (o : Out) → IsCovered o → IsCovered (left m o)
  stay_covered m o is = record {
    few = omega (arith, more o (i.Leave (fit (pos m))));
    in_code = omega arith;
    rows = λ small. (subst InnerRowsFit (sym (view_stay (min m 65535) (closed o))) (closed_fits o is (omega (arith, more o (i.Leave (fit (pos m))), small))), tt);
  }

  routine_covered : (c : Scope) (owner : Owner) (r : Routine) (o : Out) → o.segs ≡ [] → o.from ≡ length o.code → IsCovered (routine_out g c owner r o)
  routine_covered c by_program r o empty here = (inner_counts c r).keeps o (begins o empty here)
  routine_covered c (by_process k) r o empty here = (inner_counts c r).keeps o (begins o empty here)
  routine_covered c (by_monitor m) r o empty here = stay_covered m (inner_out g c r (entered m o)) ((inner_counts c r).keeps (entered m o) (begins (entered m o) refl refl))

  pub routine_fits : (c : Scope) (owner : Owner) (r : Routine) (o : Out) → o.segs ≡ [] → o.from ≡ length o.code → length (routine_out g c owner r o).code < 2 ^ 32 → RowsFit (views (closed (routine_out g c owner r o)))
  routine_fits c owner r o empty here small = closed_fits (routine_out g c owner r o) (routine_covered c owner r o empty here) small

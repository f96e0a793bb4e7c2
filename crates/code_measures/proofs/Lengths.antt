-- Code has as many instructions as its tree says.
use Rattle.std.specs.Prelude.{◌≡◌, ◌+◌, ◌++◌, ℕ, suc, List, [], ◌∷◌, Option, Some, None, pos, length}
use Rattle.std.proofs.Common.{refl, ap, subst, ◌∙◌, arith}
use Rattle.syntax_tree.specs.Plain.{Param, Expr, literal, truth, variable, element, call, minus, negation, paren, row, Exprs, no_exprs, exprs, Operands, no_operands, operand, Ref, whole, part, Stmt, assign, assign_entry, assign_empty, perform, perform_entry, when, when_else, loop, exit_when, get, put, wait, signal, broadcast, except, assert, Stmts, no_stmts, stmts, Answers, Handler, Process, Program}
use Rattle.source_semantics.specs.Names.{device_number}
use Rattle.source_semantics.specs.Store.{Range, range_of}
use Rattle.machine_isa.specs.declared.instr.Instr.{Instr}
use Rattle.machine_isa.specs.declared.instr.Instr.TheVariants as i
use Rattle.machine_semantics.specs.Image as image
use Rattle.code_spec.specs.Layout.{Owner, by_program, by_process, by_monitor, Scope, spot_of, loops, loops_in, routine_vars_words}
use Rattle.code_spec.specs.Numbering.{Text, routine_in, entry_in, number_of}
use Rattle.code_spec.specs.Code.{code_of, row_code, args_code, call_code, index_code, store_code, put_code, range_code, range_of_spot, ref_name, op_instr}
use Rattle.code_spec.specs.Emits.{IsLine, inner, condition_of, Emits, EmitsAll}
use Rattle.code_spec.specs.Compiled.{routine_scope, process_scope, enter_code, EmitsRoutine, EmitsHandler, EmitsProcess}
use Rattle.code_cost_spec.specs.Names.{Names, inside, range_seen, names_of}
use Rattle.code_cost_spec.specs.Lengths.{check_length, call_length, expr_length, row_length, args_length, index_length, put_length, stmt_length, stmts_length, answers_length, monitor_length, routine_length, handler_length, process_length}
use Rattle.code_cost_spec.specs.Levels.{routine_names, process_names}
use Rattle.code_measures.specs.Sound.{SoundRef, Sound, SoundAll, SoundRoutine, SoundHandler, SoundProcess}
use Rattle.code_measures.proofs.Lines.{length_both}
use Rattle.code_measures.proofs.Sizes.{store_size}
use Rattle.code_measures.proofs.Seen.{Sees, sees, sees_inside, range_is}
use Rattle.code_measures.proofs.Parts.{Answered, last_code, ends_apart}

check_long : (x : Option Range) → length (range_code x) ≡ check_length x
check_long None = refl
check_long (Some x) = refl

module _ (g : Program) (c : Scope) (o : Owner) (own : c.owner ≡ o) where
  call_long : (t : Option Text) (args : List Param → List Instr) (n : List Param → ℕ) → ((ps : List Param) → length (args ps) ≡ n ps) → length (call_code g t args) ≡ call_length t n
  call_long None args n same = refl
  call_long (Some t) args n same = length_both (args t.routine.params) (i.Call (pos (number_of g t)) ∷ []) ∙ ap (λ k. k + 1) (same t.routine.params)

  mutual
    expr_long : (x : Expr) → length (code_of g c x) ≡ expr_length g o x
    expr_long (literal v) = refl
    expr_long (truth b) = refl
    expr_long (variable x) = refl
    expr_long (element x e) = length_both (code_of g c e) _ ∙ ap (λ k. k + 1) (expr_long e)
    expr_long (call f es) =
        subst (λ r. length (call_code g (routine_in g c.owner f) (λ ps. args_code g c es ps)) ≡ call_length (routine_in g r f) (λ ps. args_length g o es ps)) own
        (call_long (routine_in g c.owner f) (λ ps. args_code g c es ps) (λ ps. args_length g o es ps) (λ ps. args_long es ps))
    expr_long (minus e) = length_both (code_of g c e) _ ∙ ap (λ k. k + 1) (expr_long e)
    expr_long (negation e) = length_both (code_of g c e) _ ∙ ap (λ k. k + 1) (expr_long e)
    expr_long (paren e) = expr_long e
    expr_long (row e r) = length_both (code_of g c e) (row_code g c r) ∙ (ap (λ k. k + length (row_code g c r)) (expr_long e) ∙ ap (λ k. expr_length g o e + k) (row_long r))

    row_long : (x : Operands) → length (row_code g c x) ≡ row_length g o x
    row_long no_operands = refl
    row_long (operand op e r) =
        let j : length (code_of g c e ++ (op_instr op ∷ row_code g c r)) ≡ length (code_of g c e) + suc (length (row_code g c r)) = length_both (code_of g c e) (op_instr op ∷ row_code g c r) in
        let a : length (code_of g c e) ≡ expr_length g o e = expr_long e in
        let b : length (row_code g c r) ≡ row_length g o r = row_long r in omega (arith, j, a, b)

    args_long : (es : Exprs) (ps : List Param) → length (args_code g c es ps) ≡ args_length g o es ps
    args_long no_exprs ps = refl
    args_long (exprs e es) [] = refl
    args_long (exprs e es) (p ∷ ps) =
        let j : length (code_of g c e ++ (range_code (range_of g p.kind) ++ args_code g c es ps)) ≡ length (code_of g c e) + length (range_code (range_of g p.kind) ++ args_code g c es ps) = length_both (code_of g c e) _ in
        let l : length (range_code (range_of g p.kind) ++ args_code g c es ps) ≡ length (range_code (range_of g p.kind)) + length (args_code g c es ps) = length_both (range_code (range_of g p.kind)) _ in
        let a : length (code_of g c e) ≡ expr_length g o e = expr_long e in
        let r : length (range_code (range_of g p.kind)) ≡ check_length (range_of g p.kind) = check_long (range_of g p.kind) in
        let b : length (args_code g c es ps) ≡ args_length g o es ps = args_long es ps in omega (arith, j, l, a, r, b)

  index_long : (x : Ref) → length (index_code g c x) ≡ index_length g o x
  index_long (whole x) = refl
  index_long (part x e) = expr_long e

module _ (g : Program) (may : Text → Type 0) (code : List Instr) where
  put_long : (c : Scope) (n : Names) (r : Ref) → Sees g c n → SoundRef g c r → length (put_code g c r) ≡ put_length n r
  put_long c n r s ok =
      let j : length (range_code (range_of_spot (spot_of g c (ref_name r))) ++ store_code g c r) ≡ length (range_code (range_of_spot (spot_of g c (ref_name r)))) + length (store_code g c r) = length_both (range_code (range_of_spot (spot_of g c (ref_name r)))) (store_code g c r) in
      let a : length (range_code (range_of_spot (spot_of g c (ref_name r)))) ≡ check_length (range_seen (n.view (ref_name r))) = check_long (range_of_spot (spot_of g c (ref_name r))) ∙ ap (λ x. check_length x) (range_is g c n (ref_name r) s) in
      let one : length (store_code g c r) ≡ 1 = store_size g may c r ok in omega (arith, j, a, one)

  two_parts : (p q a : ℕ) (is js : List Instr) (m n : ℕ) → IsLine code p q (is ++ js) → length is ≡ m → length js ≡ n → q ≡ p + (m + n)
  two_parts p q a is js m n l e f = let end : q ≡ p + length (is ++ js) = l.end in let j : length (is ++ js) ≡ length is + length js = length_both is js in omega (arith, end, j, e, f)

  three_parts : (p q : ℕ) (is js ks : List Instr) (m n k : ℕ) → IsLine code p q (is ++ (js ++ ks)) → length is ≡ m → length js ≡ n → length ks ≡ k → q ≡ p + (m + (n + k))
  three_parts p q is js ks m n k l e f h =
      let end : q ≡ p + length (is ++ (js ++ ks)) = l.end in let j : length (is ++ (js ++ ks)) ≡ length is + length (js ++ ks) = length_both is (js ++ ks) in let j2 : length (js ++ ks) ≡ length js + length ks = length_both js ks in omega (arith, end, j, j2, e, f, h)

  all_of : (p q : ℕ) (js : List Instr) (n : ℕ) → IsLine code p q js → length js ≡ n → q ≡ p + n
  all_of p q js n l e = let end : q ≡ p + length js = l.end in omega (arith, end, e)

  mutual
    stmt_long : (x : Stmt) (c : Scope) (n : Names) (w p q : ℕ) → Sees g c n → Sound g may c x → Emits g code c w p q x → q ≡ p + stmt_length g n x
    stmt_long (assign t e) c n w p q s ok l = three_parts p q (index_code g c t) (code_of g c e) (put_code g c t) _ _ _ l (index_long g c n.owner s.owner t) (expr_long g c n.owner s.owner e) (put_long c n t s ok.1)
    stmt_long (assign_entry t m en es) c n w p q s ok l =
        three_parts p q (index_code g c t) (call_code g (entry_in g m en) (λ ps. args_code g c es ps)) (put_code g c t) _ _ _ l (index_long g c n.owner s.owner t)
        (call_long g c n.owner s.owner (entry_in g m en) (λ ps. args_code g c es ps) (λ ps. args_length g n.owner es ps) (λ ps. args_long g c n.owner s.owner es ps)) (put_long c n t s ok.1)
    stmt_long (assign_empty t x) c n w p q s ok l =
        two_parts p q 0 (index_code g c t) (i.Empty (pos (condition_of g c.owner x)) ∷ store_code g c t) _ 2 l (index_long g c n.owner s.owner t) (ap (λ k. suc k) (store_size g may c t ok.1))
    stmt_long (perform f es) c n w p q s ok l =
        all_of p q (call_code g (routine_in g c.owner f) (λ ps. args_code g c es ps)) _ l (expr_long g c n.owner s.owner (call f es))
    stmt_long (perform_entry m en es) c n w p q s ok l =
        all_of p q (call_code g (entry_in g m en) (λ ps. args_code g c es ps)) _ l (call_long g c n.owner s.owner (entry_in g m en) (λ ps. args_code g c es ps) (λ ps. args_length g n.owner es ps) (λ ps. args_long g c n.owner s.owner es ps))
    stmt_long (when e x) c n w p q s ok l =
        let a : l.0 ≡ p + expr_length g n.owner e = all_of p l.0 (code_of g c e) _ l.2 (expr_long g c n.owner s.owner e) in
        let b : l.1 ≡ l.0 + 1 + stmts_length g n x = stmts_long x c n w (l.0 + 1) l.1 s ok.1 l.4 in
        let last : q ≡ l.1 + 1 = l.6 in omega (arith, a, b, last)
    stmt_long (when_else e x y) c n w p q s ok l =
        let a : l.0 ≡ p + expr_length g n.owner e = all_of p l.0 (code_of g c e) _ l.2 (expr_long g c n.owner s.owner e) in
        let b : l.1 ≡ l.0 + 1 + stmts_length g n x = stmts_long x c n w (l.0 + 1) l.1 s ok.1 l.4 in
        let d : q ≡ l.1 + 1 + stmts_length g n y = stmts_long y c n (w + loops x) (l.1 + 1) q s ok.2 l.6 in omega (arith, a, b, d)
    stmt_long (loop x low high ss) c n w p q s ok l =
        let a : l.0 ≡ p + 1 + 1 + 1 + stmts_length g (inside n x) ss = stmts_long ss (inner c x w q) (inside n x) (suc w) (p + 1 + 1 + 1) l.0 (sees_inside g c n x w q s) (ok.1 w q) l.2 in
        let last : q ≡ l.0 + 1 + 1 + 1 + 1 + 1 = l.4 in omega (arith, a, last)
    stmt_long (exit_when e) c n w p q s ok l =
        let a : l.0 ≡ p + expr_length g n.owner e = all_of p l.0 (code_of g c e) _ l.2 (expr_long g c n.owner s.owner e) in
        let last : q ≡ l.0 + 1 = l.5 in omega (arith, a, last)
    stmt_long (get dev t) c n w p q s ok l =
        two_parts p q 0 (index_code g c t) (i.In (pos (device_number g dev)) ∷ put_code g c t) _ (1 + put_length n t) l (index_long g c n.owner s.owner t) (let e : length (put_code g c t) ≡ put_length n t = put_long c n t s ok.1 in omega (arith, e))
    stmt_long (put dev e) c n w p q s ok l = two_parts p q 0 (code_of g c e) (i.Out (pos (device_number g dev)) ∷ []) _ 1 l (expr_long g c n.owner s.owner e) refl
    stmt_long (wait x limit number) c n w p q s ok l = l.end
    stmt_long (signal x) c n w p q s ok l = l.end
    stmt_long (broadcast x) c n w p q s ok l = l.end
    stmt_long (except k) c n w p q s ok l = l.end
    stmt_long (assert e) c n w p q s ok l =
        let a : l.0 ≡ p + expr_length g n.owner e = all_of p l.0 (code_of g c e) _ l.1 (expr_long g c n.owner s.owner e) in
        let last : q ≡ l.0 + 1 + 1 + 1 = l.5 in omega (arith, a, last)

    pub stmts_long : (x : Stmts) (c : Scope) (n : Names) (w p q : ℕ) → Sees g c n → SoundAll g may c x → EmitsAll g code c w p q x → q ≡ p + stmts_length g n x
    stmts_long no_stmts c n w p q s ok l = let e : q ≡ p = l in omega (arith, e)
    stmts_long (stmts x xs) c n w p q s ok l =
        let a : l.0 ≡ p + stmt_length g n x = stmt_long x c n w p l.0 s ok.0 l.1 in
        let b : q ≡ l.0 + stmts_length g n xs = stmts_long xs c n (w + loops_in x) l.0 q s ok.1 l.2 in omega (arith, a, b)

  answers_long : (o : Option Answers) (c : Scope) (p q : ℕ) → Answered g code c p q o → q ≡ p + answers_length g (names_of g c) o
  answers_long None c p q l = let e : q ≡ p = l in omega (arith, e)
  answers_long (Some a) c p q l =
      let x : l.0 ≡ p + expr_length g c.owner a.value = all_of p l.0 (code_of g c a.value) _ l.1 (expr_long g c c.owner refl a.value) in
      let y : q ≡ l.0 + check_length (range_of g a.kind) = all_of l.0 q (range_code (range_of g a.kind)) _ l.2 (check_long (range_of g a.kind)) in omega (arith, x, y)

  -- a routine has as many instructions as its text says
  pub routine_long : (t : Text) (p q : ℕ) → SoundRoutine g may t → EmitsRoutine g code t p q → q ≡ p + routine_length g (routine_names g t) t
  routine_long t p q ok h =
      let parts = ends_apart g code (routine_scope g t) t.owner h.behind q t.routine.answers h.rest in
      let a : h.inside ≡ p + length (enter_code t.owner) = h.enters.end in
      let b : h.behind ≡ h.inside + stmts_length g (routine_names g t) t.routine.body = stmts_long t.routine.body (routine_scope g t) (routine_names g t) (routine_vars_words g t.routine) h.inside h.behind (sees g (routine_scope g t)) ok.0 h.body in
      let d : parts.0 ≡ h.behind + answers_length g (routine_names g t) t.routine.answers = answers_long t.routine.answers (routine_scope g t) h.behind parts.0 parts.1 in
      let e : q ≡ parts.0 + length (last_code t.owner t.routine.answers) = parts.2.end in
      let f : length (enter_code t.owner) + length (last_code t.owner t.routine.answers) ≡ monitor_length t.owner + 1 = both t.owner t.routine.answers in omega (arith, a, b, d, e, f)
    where
      both : (w : Owner) (o : Option Answers) → length (enter_code w) + length (last_code w o) ≡ monitor_length w + 1
      both by_program o = refl
      both (by_process k) o = refl
      both (by_monitor m) o = refl

  handler_long : (k : ℕ) (p : Process) (o : Option Handler) (from q : ℕ) (ip : image.Process) → SoundHandler g may (process_scope g k p) o → EmitsHandler g code k p o from q ip → q ≡ from + handler_length g (process_names g k p) o
  handler_long k p None from q ip ok h = let e : q ≡ from = h.0 in omega (arith, e)
  handler_long k p (Some x) from q ip ok h =
      let a : h.0 ≡ from + stmts_length g (process_names g k p) x.body = stmts_long x.body (process_scope g k p) (process_names g k p) (loops p.body) from h.0 (sees g (process_scope g k p)) ok h.1 in
      let e : q ≡ h.0 + 1 = h.2.end in omega (arith, a, e)

  -- and so has a process
  pub process_long : (k : ℕ) (p : Process) (from q : ℕ) (ip : image.Process) → SoundProcess g may k p → EmitsProcess g code k p from q ip → q ≡ from + process_length g (process_names g k p) p
  process_long k p from q ip ok h =
      let a : h.behind ≡ from + stmts_length g (process_names g k p) p.body = stmts_long p.body (process_scope g k p) (process_names g k p) 0 from h.behind (sees g (process_scope g k p)) ok.0 h.body in
      let b : q ≡ h.behind + 1 + handler_length g (process_names g k p) p.handler = handler_long k p p.handler (h.behind + 1) q ip ok.1 h.handler in omega (arith, a, b)

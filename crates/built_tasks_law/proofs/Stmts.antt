-- What the code of statements calls.
use Rattle.std.specs.Prelude.{◌≡◌, ◌+◌, ◌||◌, ◌++◌, ℕ, suc, Bool, false, List, [], ◌∷◌, pos}
use Rattle.std.proofs.Common.{refl, sym, ap, ◌∙◌, arith}
use Rattle.syntax_tree.specs.Plain.{Stmt, assign, assign_entry, assign_empty, perform, perform_entry, when, when_else, loop, exit_when, get, put, wait, signal, broadcast, except, assert, Stmts, no_stmts, stmts, Program}
use Rattle.source_semantics.specs.Names.{constant_value, count_value, device_number}
use Rattle.machine_isa.specs.declared.instr.Instr.{Instr}
use Rattle.machine_isa.specs.declared.instr.Instr.TheVariants as i
use Rattle.code_spec.specs.Layout.{Scope, loops, loops_in}
use Rattle.code_spec.specs.Numbering.{Text, Called, calls_routine, calls_entry, called_text, expr_calls, exprs_calls, ref_calls, stmt_calls, stmts_calls, routine_in, entry_in}
use Rattle.code_spec.specs.Code.{code_of, args_code, call_code, index_code, store_code, put_code}
use Rattle.code_spec.specs.Emits.{inner, turns_of, condition_of, monitor_of, Emits, EmitsAll}
use Rattle.code_measures.specs.Sound.{Sound, SoundAll}
use Rattle.sched_program.specs.Tasks.{some_called}
use Rattle.built_tasks_law.specs.Calls.{by_number}
use Rattle.built_tasks_law.proofs.Tests.{or_false, called_both, in_parts, in_front}
use Rattle.built_tasks_law.proofs.Exprs.{store_calls, put_calls, call_same, expr_same, args_same, index_same}
use Rattle.built_tasks_law.proofs.Spans.{Spans, as_well, nothing, join, has_spans, line_spans, one_spans}

module _ (g : Program) (test : ℕ → Bool) (may : Text → Type 0) (code : List Instr) where
  abbrev pub In : Scope → List Called → Bool
  In c cs = some_called (by_number g test) (called_text g c.owner) cs

  pub both : (c : Scope) (cs ds : List Called) → In c (cs ++ ds) ≡ In c cs || In c ds
  both c cs ds = called_both (by_number g test) (called_text g c.owner) cs ds

  mutual
    pub stmt_spans : (x : Stmt) (c : Scope) (w p q : ℕ) → Sound g may c x → Emits g code c w p q x → Spans test code p q (In c (stmt_calls x))
    stmt_spans (assign r e) c w p q ok l =
        line_spans test code p q (index_code g c r ++ (code_of g c e ++ put_code g c r)) (In c (ref_calls r ++ expr_calls e)) l
        (in_parts test (index_code g c r) (code_of g c e ++ put_code g c r) (In c (ref_calls r)) (In c (expr_calls e)) (index_same g test may c r ok.0)
        (in_front test (code_of g c e) (put_code g c r) (In c (expr_calls e)) (expr_same g test may c e ok.2) (put_calls test g c r))
        ∙ sym (both c (ref_calls r) (expr_calls e)))
    stmt_spans (assign_entry r m e es) c w p q ok l =
        line_spans test code p q (index_code g c r ++ (call_code g (entry_in g m e) (λ ps. args_code g c es ps) ++ put_code g c r)) (In c (ref_calls r ++ calls_entry m e ∷ exprs_calls es)) l
        (in_parts test (index_code g c r) (call_code g (entry_in g m e) (λ ps. args_code g c es ps) ++ put_code g c r) (In c (ref_calls r)) (In c (calls_entry m e ∷ exprs_calls es)) (index_same g test may c r ok.0)
        (in_front test (call_code g (entry_in g m e) (λ ps. args_code g c es ps)) (put_code g c r) (In c (calls_entry m e ∷ exprs_calls es))
        (call_same g test may c (entry_in g m e) ok.2.0 (λ ps. args_code g c es ps) (In c (exprs_calls es)) ok.2.2 (args_same g test may c es ok.2.0.routine.params ok.2.5)) (put_calls test g c r))
        ∙ sym (both c (ref_calls r) (calls_entry m e ∷ exprs_calls es)))
    stmt_spans (assign_empty r x) c w p q ok l =
        line_spans test code p q (index_code g c r ++ (i.Empty (pos (condition_of g c.owner x)) ∷ store_code g c r)) (In c (ref_calls r)) l
        (in_front test (index_code g c r) (i.Empty (pos (condition_of g c.owner x)) ∷ store_code g c r) (In c (ref_calls r)) (index_same g test may c r ok.0) (store_calls test g c r))
    stmt_spans (perform f es) c w p q ok l =
        line_spans test code p q (call_code g (routine_in g c.owner f) (λ ps. args_code g c es ps)) (In c (calls_routine f ∷ exprs_calls es)) l
        (call_same g test may c (routine_in g c.owner f) ok.0 (λ ps. args_code g c es ps) (In c (exprs_calls es)) ok.1 (args_same g test may c es ok.0.routine.params ok.4))
    stmt_spans (perform_entry m e es) c w p q ok l =
        line_spans test code p q (call_code g (entry_in g m e) (λ ps. args_code g c es ps)) (In c (calls_entry m e ∷ exprs_calls es)) l
        (call_same g test may c (entry_in g m e) ok.0 (λ ps. args_code g c es ps) (In c (exprs_calls es)) ok.1 (args_same g test may c es ok.0.routine.params ok.4))
    stmt_spans (when e a) c w p q ok l =
        as_well test code p q (In c (expr_calls e) || (false || (In c (stmts_calls a) || false))) (In c (expr_calls e ++ stmts_calls a))
        (join test code p l.0 q (In c (expr_calls e)) (false || (In c (stmts_calls a) || false)) (line_spans test code p l.0 (code_of g c e) (In c (expr_calls e)) l.2 (expr_same g test may c e ok.0))
        (join test code l.0 (l.0 + 1) q false (In c (stmts_calls a) || false) (one_spans test code l.0 (l.0 + 1) (i.JumpZero (pos (l.1 + 1))) l.3 refl refl)
        (join test code (l.0 + 1) l.1 q (In c (stmts_calls a)) false (stmts_span a c w (l.0 + 1) l.1 ok.1 l.4) (one_spans test code l.1 q (i.Jump (pos q)) l.5 l.6 refl))))
        (ap (λ z. In c (expr_calls e) || z) (or_false (In c (stmts_calls a))) ∙ sym (both c (expr_calls e) (stmts_calls a)))
    stmt_spans (when_else e a b) c w p q ok l =
        as_well test code p q (In c (expr_calls e) || (false || (In c (stmts_calls a) || (false || In c (stmts_calls b))))) (In c (expr_calls e ++ (stmts_calls a ++ stmts_calls b)))
        (join test code p l.0 q (In c (expr_calls e)) (false || (In c (stmts_calls a) || (false || In c (stmts_calls b)))) (line_spans test code p l.0 (code_of g c e) (In c (expr_calls e)) l.2 (expr_same g test may c e ok.0))
        (join test code l.0 (l.0 + 1) q false (In c (stmts_calls a) || (false || In c (stmts_calls b))) (one_spans test code l.0 (l.0 + 1) (i.JumpZero (pos (l.1 + 1))) l.3 refl refl)
        (join test code (l.0 + 1) l.1 q (In c (stmts_calls a)) (false || In c (stmts_calls b)) (stmts_span a c w (l.0 + 1) l.1 ok.1 l.4)
        (join test code l.1 (l.1 + 1) q false (In c (stmts_calls b)) (one_spans test code l.1 (l.1 + 1) (i.Jump (pos q)) l.5 refl refl)
        (stmts_span b c (w + loops a) (l.1 + 1) q ok.2 l.6)))))
        (ap (λ z. In c (expr_calls e) || z) (sym (both c (stmts_calls a) (stmts_calls b))) ∙ sym (both c (expr_calls e) (stmts_calls a ++ stmts_calls b)))
    stmt_spans (loop x low high ss) c w p q ok l =
        as_well test code p q (false || (In c (stmts_calls ss) || false)) (In c (stmts_calls ss))
        (join test code p (p + 1 + 1 + 1) q false (In c (stmts_calls ss) || false)
        (has_spans test code (i.Push (constant_value g low) ∷ i.StoreLocal (pos w) ∷ i.Repeats (pos (turns_of (constant_value g low) (constant_value g high))) ∷ []) p (p + 1 + 1 + 1) l.1 (three p))
        (join test code (p + 1 + 1 + 1) l.0 q (In c (stmts_calls ss)) false (stmts_span ss (inner c x w q) (suc w) (p + 1 + 1 + 1) l.0 (ok.1 w q) l.2)
        (has_spans test code (i.LoadLocal (pos w) ∷ i.Push (pos 1) ∷ i.Add ∷ i.StoreLocal (pos w) ∷ i.Repeat (pos (p + 1 + 1 + 1)) ∷ []) l.0 q l.3 (five l.0 q l.4))))
        (or_false (In c (stmts_calls ss)))
      where
        three : (p : ℕ) → p + 1 + 1 + 1 ≡ p + 3
        three p = omega arith

        five : (p q : ℕ) → q ≡ p + 1 + 1 + 1 + 1 + 1 → q ≡ p + 5
        five p q e = omega (arith, e)
    stmt_spans (exit_when e) c w p q ok l =
        as_well test code p q (In c (expr_calls e) || false) (In c (expr_calls e))
        (join test code p l.0 q (In c (expr_calls e)) false (line_spans test code p l.0 (code_of g c e) (In c (expr_calls e)) l.2 (expr_same g test may c e ok)) (one_spans test code l.0 q (i.Exit (pos l.1)) l.4 l.5 refl))
        (or_false (In c (expr_calls e)))
    stmt_spans (get d r) c w p q ok l =
        line_spans test code p q (index_code g c r ++ (i.In (pos (device_number g d)) ∷ put_code g c r)) (In c (ref_calls r)) l
        (in_front test (index_code g c r) (i.In (pos (device_number g d)) ∷ put_code g c r) (In c (ref_calls r)) (index_same g test may c r ok.0) (put_calls test g c r))
    stmt_spans (put d e) c w p q ok l =
        line_spans test code p q (code_of g c e ++ (i.Out (pos (device_number g d)) ∷ [])) (In c (expr_calls e)) l
        (in_front test (code_of g c e) (i.Out (pos (device_number g d)) ∷ []) (In c (expr_calls e)) (expr_same g test may c e ok) refl)
    stmt_spans (wait x limit number) c w p q ok l =
        line_spans test code p q (i.Wait (pos (condition_of g c.owner x)) (pos (count_value g limit)) (pos (count_value g number)) ∷ i.Reenter (pos (monitor_of c.owner)) ∷ []) false l refl
    stmt_spans (signal x) c w p q ok l = line_spans test code p q (i.Signal (pos (condition_of g c.owner x)) ∷ []) false l refl
    stmt_spans (broadcast x) c w p q ok l = line_spans test code p q (i.Broadcast (pos (condition_of g c.owner x)) ∷ []) false l refl
    stmt_spans (except n) c w p q ok l = line_spans test code p q (i.Raise (pos (count_value g n)) ∷ []) false l refl
    stmt_spans (assert e) c w p q ok l =
        as_well test code p q (In c (expr_calls e) || (false || (false || false))) (In c (expr_calls e))
        (join test code p l.0 q (In c (expr_calls e)) (false || (false || false)) (line_spans test code p l.0 (code_of g c e) (In c (expr_calls e)) l.1 (expr_same g test may c e ok))
        (join test code l.0 (l.0 + 1) q false (false || false) (one_spans test code l.0 (l.0 + 1) (i.JumpZero (pos (l.0 + 1 + 1))) l.2 refl refl)
        (join test code (l.0 + 1) (l.0 + 1 + 1) q false false (one_spans test code (l.0 + 1) (l.0 + 1 + 1) (i.Jump (pos q)) l.3 refl refl)
        (one_spans test code (l.0 + 1 + 1) q (i.Raise (pos 4)) l.4 l.5 refl))))
        (or_false (In c (expr_calls e)))

    pub stmts_span : (xs : Stmts) (c : Scope) (w p q : ℕ) → SoundAll g may c xs → EmitsAll g code c w p q xs → Spans test code p q (In c (stmts_calls xs))
    stmts_span no_stmts c w p q ok l = nothing test code p q l
    stmts_span (stmts x xs) c w p q ok l =
        as_well test code p q (In c (stmt_calls x) || In c (stmts_calls xs)) (In c (stmt_calls x ++ stmts_calls xs))
        (join test code p l.0 q (In c (stmt_calls x)) (In c (stmts_calls xs)) (stmt_spans x c w p l.0 ok.0 l.1) (stmts_span xs c (w + loops_in x) l.0 q ok.1 l.2))
        (sym (both c (stmt_calls x) (stmts_calls xs)))

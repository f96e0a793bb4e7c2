-- One turn of a loop that makes the routines or the processes of a program.
use Rattle.std.proofs.Common.{◌≡◌, ◌<◌, ◌+◌, ℕ, suc, arith, List, Some, length, drop, slice_get, sym, ap, ◌∙◌}
use Rattle.syntax_tree.specs.Plain.{Process, Program, Routine}
use Rattle.code_spec.specs.Layout.{Scope, routine_vars_words}
use Rattle.code_spec.specs.Numbering.{Text}
use Rattle.code_spec.specs.Compiled.{process_scope, routine_scope}
use Rattle.codegen_spec.specs.declared.code.Code.{Code}
use Rattle.codegen_spec.specs.Parts.{process_made, processes_made, routine_made, texts_made}
use Rattle.code_cost.proofs.Steps.{at_place}

-- the routine at a place is made, in its own scope
pub routine_turn : (g h : Program) (ts : List Text) (n : ℕ) (c : Scope) (w : ℕ) (r : Routine) (old new end : Code) → n < length ts → h ≡ g
    → ((t : Text) → slice_get ts n ≡ Some t → c ≡ routine_scope g t)
    → ((t : Text) → slice_get ts n ≡ Some t → w ≡ routine_vars_words g t.routine)
    → ((t : Text) → slice_get ts n ≡ Some t → r ≡ t.routine)
    → new ≡ routine_made h c w r old
    → texts_made g (drop n ts) old ≡ end → texts_made g (drop (n + 1) ts) new ≡ end
routine_turn g h ts n c w r old new end within same is_c is_w is_r made so_far =
    let a = at_place ts n within in
    ap (texts_made g (drop (n + 1) ts))
    (made ∙ ap (λ k. routine_made k c w r old) same ∙ ap (λ k. routine_made g k w r old) (is_c a.0 a.1)
    ∙ ap (λ k. routine_made g (routine_scope g a.0) k r old) (is_w a.0 a.1)
    ∙ ap (λ k. routine_made g (routine_scope g a.0) (routine_vars_words g a.0.routine) k old) (is_r a.0 a.1))
    ∙ sym (ap (λ us. texts_made g us old) a.2) ∙ so_far

-- the same of a process
pub process_turn : (g h : Program) (ps : List Process) (n : ℕ) (c : Scope) (p : Process) (old new end : Code) → n < length ps → h ≡ g
    → ((q : Process) → slice_get ps n ≡ Some q → c ≡ process_scope g n q)
    → ((q : Process) → slice_get ps n ≡ Some q → p ≡ q)
    → new ≡ process_made h c p old
    → processes_made g n (drop n ps) old ≡ end → processes_made g (n + 1) (drop (n + 1) ps) new ≡ end
process_turn g h ps n c p old new end within same is_c is_p made so_far =
    let a = at_place ps n within in
    let next : n + 1 ≡ suc n = omega arith in
    ap (λ m. processes_made g m (drop (n + 1) ps) new) next
    ∙ ap (processes_made g (suc n) (drop (n + 1) ps))
    (made ∙ ap (λ k. process_made k c p old) same ∙ ap (λ k. process_made g k p old) (is_c a.0 a.1)
    ∙ ap (λ k. process_made g (process_scope g n a.0) k old) (is_p a.0 a.1))
    ∙ sym (ap (λ us. processes_made g n us old) a.2) ∙ so_far

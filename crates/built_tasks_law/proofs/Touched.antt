-- The monitors that a process uses are those that its text comes to.
use Rattle.std.specs.Prelude.{◌≡◌, ◌||◌, ℕ, zero, suc, false, Option, Some, None, length, slice_get}
use Rattle.std.proofs.Common.{refl, sym, ap, ◌∙◌}
use Rattle.syntax_tree.specs.Plain.{Handler, Process, Program}
use Rattle.source_semantics.specs.Names.{processes, routine_count}
use Rattle.source_semantics.specs.Ranks.{uses_all, called_uses, reached, handler_body, monitors_of, includes}
use Rattle.code_spec.specs.Layout.{Owner, by_process}
use Rattle.code_spec.specs.Numbering.{Text, called_text, stmts_calls, answers_calls, numbered, number_of}
use Rattle.code_spec.specs.Compiled.{routine_scope, process_scope}
use Rattle.code_measures.specs.Sound.{SoundHandler}
use Rattle.static_semantics.specs.WellFormed.{IsWellFormed}
use Rattle.codegen_law.specs.Ruled.{NamesApart}
use Rattle.code_measures.specs.Declared.{IsBelow}
use Rattle.codegen_law.proofs.SoundLemmas.{well_formed_programs_are_sound}
use Rattle.sched_program.specs.Tasks.{some_called}
use Rattle.built_tasks_law.proofs.Tests.{or_false, or_both, called_both}
use Rattle.built_tasks_law.specs.Touches.{is_entry_of, comes_to_one, touches, process_touches, TextsUseWhatTheyTouch}
use Rattle.built_tasks_law.proofs.Lists.{includes_both}
use Rattle.built_tasks_law.proofs.Owners.{Known, named_near, near_entry, near_known, named_found}
use Rattle.built_tasks_law.proofs.Closed.{function_touches, entry_touches}
use Rattle.built_tasks_law.proofs.Uses.{Agrees, uses_all_same}

module _ (g : Program) (form : IsWellFormed g) (names : NamesApart g) (k : ℕ) (p : Process) (at : slice_get (processes g) k ≡ Some p) (j : ℕ) where
  -- a procedure: no entry, and without a result
  procedure_touches : (n : ℕ) (t : Text) → is_entry_of j t.owner ≡ false → t.routine.answers ≡ None → touches (suc n) g j t ≡ some_called (touches n g j) (called_text g t.owner) (stmts_calls t.routine.body)
  unfolding comes_to_one
  procedure_touches n t plain silent =
      or_both plain
      (called_both (touches n g j) (called_text g t.owner) (stmts_calls t.routine.body) (answers_calls t.routine.answers)
      ∙ (ap (λ a. some_called (touches n g j) (called_text g t.owner) (stmts_calls t.routine.body) || some_called (touches n g j) (called_text g t.owner) (answers_calls a)) silent
      ∙ or_false (some_called (touches n g j) (called_text g t.owner) (stmts_calls t.routine.body))))

  agrees : (n r : ℕ) (o : Owner) → Known k o → Agrees g (λ y. IsBelow g r y) j (reached g p n) (touches n g j) o
  unfolding reached comes_to_one
  agrees zero r o known = record {
    functions = λ f t a means may answers. function_touches g form names j 0 o f t a means answers;
    procedures = λ f t means may silent. sym (near_entry j o t (named_near g o f t means));
    entries = λ m e t means. entry_touches g form names j 0 m e t means;
  }
  agrees (suc n) r o known = record {
    functions = λ f t a means may answers. function_touches g form names j (suc n) o f t a means answers;
    procedures = λ f t means may silent.
        ap (λ x. includes j (called_uses (λ y. uses_all g (reached g p n) y.body) x)) (named_found g names k p at o f t known means)
        ∙ (uses_all_same g (λ y. IsBelow g (number_of g t) y) j (reached g p n) (touches n g j) t.routine.body (routine_scope g t)
        (agrees n (number_of g t) t.owner (near_known k o t known (named_near g o f t means))) ((well_formed_programs_are_sound g form names).routines (number_of g t) t may.there).0
        ∙ sym (procedure_touches n t (near_entry j o t (named_near g o f t means)) silent));
    entries = λ m e t means. entry_touches g form names j (suc n) m e t means;
  }

  handler_uses : (h : Option Handler) → SoundHandler g (λ y. IsBelow g (length (numbered g)) y) (process_scope g k p) h
      → includes j (uses_all g (reached g p (routine_count g)) (handler_body h)) ≡ some_called (touches (routine_count g) g j) (called_text g (by_process k)) (stmts_calls (handler_body h))
  handler_uses None ok = refl
  handler_uses (Some h) ok =
      uses_all_same g (λ y. IsBelow g (length (numbered g)) y) j (reached g p (routine_count g)) (touches (routine_count g) g j) h.body (process_scope g k p) (agrees (routine_count g) (length (numbered g)) (by_process k) refl) ok

  process_uses : includes j (monitors_of g p) ≡ process_touches g j k p
  process_uses =
      let sound = (well_formed_programs_are_sound g form names).bodies k p at in
      includes_both j (uses_all g (reached g p (routine_count g)) p.body) (uses_all g (reached g p (routine_count g)) (handler_body p.handler))
      ∙ (or_both
      (uses_all_same g (λ y. IsBelow g (length (numbered g)) y) j (reached g p (routine_count g)) (touches (routine_count g) g j) p.body (process_scope g k p) (agrees (routine_count g) (length (numbered g)) (by_process k) refl) sound.0)
      (handler_uses p.handler sound.1)
      ∙ sym (called_both (touches (routine_count g) g j) (called_text g (by_process k)) (stmts_calls p.body) (stmts_calls (handler_body p.handler))))

pub texts_use : TextsUseWhatTheyTouch
texts_use g form names k p at j = process_uses g form names k p at j

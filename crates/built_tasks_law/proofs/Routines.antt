-- What the code of routines and processes calls.
use Rattle.std.specs.Prelude.{◌≡◌, ◌+◌, ◌||◌, ℕ, Bool, false, List, [], ◌∷◌, Option, Some, None}
use Rattle.std.proofs.Common.{refl, sym, ap, ◌∙◌}
use Rattle.syntax_tree.specs.Plain.{Answers, Handler, Process, Program}
use Rattle.source_semantics.specs.Ranks.{handler_body}
use Rattle.source_semantics.specs.Store.{range_of}
use Rattle.machine_isa.specs.declared.instr.Instr.{Instr}
use Rattle.machine_isa.specs.declared.instr.Instr.TheVariants as i
use Rattle.machine_semantics.specs.Image as image
use Rattle.code_spec.specs.Layout.{Owner, by_program, by_process, by_monitor, Scope, routine_vars_words, loops}
use Rattle.code_spec.specs.Numbering.{Text, called_text, stmts_calls, answers_calls, routine_calls}
use Rattle.code_spec.specs.Code.{code_of, range_code}
use Rattle.code_spec.specs.Compiled.{routine_scope, process_scope, enter_code, EmitsRoutine, EmitsHandler, EmitsProcess}
use Rattle.code_measures.specs.Sound.{SoundAnswers, SoundRoutine, SoundHandler, SoundProcess}
use Rattle.code_measures.proofs.Parts.{Answered, return_of, last_code, ends_apart}
use Rattle.sched_program.specs.Tasks.{some_called, process_calls}
use Rattle.built_tasks_law.specs.Calls.{by_number}
use Rattle.built_tasks_law.proofs.Tests.{or_false, some_in}
use Rattle.built_tasks_law.proofs.Exprs.{range_calls, expr_same}
use Rattle.built_tasks_law.proofs.Spans.{Spans, as_well, nothing, join, line_spans, one_spans}
use Rattle.built_tasks_law.proofs.Stmts.{In, both, stmts_span}

module _ (test : ℕ → Bool) where
  enter_calls : (o : Owner) → some_in test (enter_code o) ≡ false
  enter_calls by_program = refl
  enter_calls (by_process k) = refl
  enter_calls (by_monitor m) = refl

  return_calls : (a : Option Answers) → some_in test (return_of a ∷ []) ≡ false
  return_calls None = refl
  return_calls (Some a) = refl

  last_calls : (o : Owner) (a : Option Answers) → some_in test (last_code o a) ≡ false
  last_calls by_program a = return_calls a
  last_calls (by_process k) a = return_calls a
  last_calls (by_monitor m) a = return_calls a

module _ (g : Program) (test : ℕ → Bool) (may : Text → Type 0) (code : List Instr) where
  answers_span : (c : Scope) (o : Option Answers) (p q : ℕ) → SoundAnswers g may c o → Answered g code c p q o → Spans test code p q (In g test may code c (answers_calls o))
  answers_span c None p q ok h = nothing test code p q h
  answers_span c (Some a) p q ok h =
      as_well test code p q (In g test may code c (answers_calls (Some a)) || false) (In g test may code c (answers_calls (Some a)))
      (join test code p h.0 q (In g test may code c (answers_calls (Some a))) false
      (line_spans test code p h.0 (code_of g c a.value) (In g test may code c (answers_calls (Some a))) h.1 (expr_same g test may c a.value ok))
      (line_spans test code h.0 q (range_code (range_of g a.kind)) false h.2 (range_calls test (range_of g a.kind))))
      (or_false (In g test may code c (answers_calls (Some a))))

  -- a routine, from its ENTER, if it has one, to its return
  pub routine_span : (t : Text) (p q : ℕ) → SoundRoutine g may t → EmitsRoutine g code t p q
      → Spans test code p q (some_called (by_number g test) (called_text g t.owner) (routine_calls t.routine))
  routine_span t p q ok h =
      let c : Scope = routine_scope g t in
      let e = ends_apart g code (routine_scope g t) t.owner h.behind q t.routine.answers h.rest in
      let body : Bool = In g test may code (routine_scope g t) (stmts_calls t.routine.body) in
      let answer : Bool = In g test may code (routine_scope g t) (answers_calls t.routine.answers) in
      as_well test code p q (false || (body || (answer || false))) (In g test may code (routine_scope g t) (routine_calls t.routine))
      (join test code p h.inside q false (body || (answer || false)) (line_spans test code p h.inside (enter_code t.owner) false h.enters (enter_calls test t.owner))
      (join test code h.inside h.behind q body (answer || false)
      (stmts_span g test may code t.routine.body (routine_scope g t) (routine_vars_words g t.routine) h.inside h.behind ok.0 h.body)
      (join test code h.behind e.0 q answer false (answers_span (routine_scope g t) t.routine.answers h.behind e.0 ok.1 e.1)
      (line_spans test code e.0 q (last_code t.owner t.routine.answers) false e.2 (last_calls test t.owner t.routine.answers)))))
      (ap (λ z. body || z) (or_false answer) ∙ sym (both g test may code (routine_scope g t) (stmts_calls t.routine.body) (answers_calls t.routine.answers)))

  handler_span : (k : ℕ) (t : Process) (o : Option Handler) (p q : ℕ) (ip : image.Process) → SoundHandler g may (process_scope g k t) o → EmitsHandler g code k t o p q ip
      → Spans test code p q (In g test may code (process_scope g k t) (stmts_calls (handler_body o)))
  handler_span k t None p q ip ok h = nothing test code p q h.0
  handler_span k t (Some d) p q ip ok h =
      as_well test code p q (In g test may code (process_scope g k t) (stmts_calls d.body) || false) (In g test may code (process_scope g k t) (stmts_calls d.body))
      (join test code p h.0 q (In g test may code (process_scope g k t) (stmts_calls d.body)) false
      (stmts_span g test may code d.body (process_scope g k t) (loops t.body) p h.0 ok h.1) (line_spans test code h.0 q (i.End ∷ []) false h.2 refl))
      (or_false (In g test may code (process_scope g k t) (stmts_calls d.body)))

  -- a process, with its handler
  pub process_span : (k : ℕ) (t : Process) (p q : ℕ) (ip : image.Process) → SoundProcess g may k t → EmitsProcess g code k t p q ip
      → Spans test code p q (some_called (by_number g test) (called_text g (by_process k)) (process_calls t))
  process_span k t p q ip ok h =
      let body : Bool = In g test may code (process_scope g k t) (stmts_calls t.body) in
      let handled : Bool = In g test may code (process_scope g k t) (stmts_calls (handler_body t.handler)) in
      as_well test code p q (body || (false || handled)) (In g test may code (process_scope g k t) (process_calls t))
      (join test code p h.behind q body (false || handled) (stmts_span g test may code t.body (process_scope g k t) 0 p h.behind ok.0 h.body)
      (join test code h.behind (h.behind + 1) q false handled (one_spans test code h.behind (h.behind + 1) i.End h.end refl refl)
      (handler_span k t t.handler (h.behind + 1) q ip ok.1 h.handler)))
      (sym (both g test may code (process_scope g k t) (stmts_calls t.body) (stmts_calls (handler_body t.handler))))

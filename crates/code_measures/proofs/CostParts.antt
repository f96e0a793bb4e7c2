-- The measures of a routine and of a process, where the rows tell of all that they call.
use Rattle.std.specs.Prelude.{◌≡◌, ◌+◌, ℕ, Option, Some, None, max}
use Rattle.std.proofs.Common.{refl, ap, ◌∙◌, arith, List}
use Rattle.syntax_tree.specs.Plain.{Answers, Routine, Handler, Process, Program}
use Rattle.base.specs.Capped.{cap}
use Rattle.base.specs.declared.capped.Cost.{Cost}
use Rattle.source_semantics.specs.Store.{range_of}
use Rattle.valid_image.specs.Found.{capped, plus, longer}
use Rattle.code_spec.specs.Layout.{Owner, by_program, by_process, by_monitor, Scope, routine_vars_words, frame_words}
use Rattle.code_spec.specs.Numbering.{Text}
use Rattle.code_spec.specs.Compiled.{routine_scope, process_scope}
use Rattle.code_cost_spec.specs.Names.{Names, names_of}
use Rattle.code_cost_spec.specs.Costs.{run, check_ticks, expr_cost, stmts_cost, answers_cost, inner_cost, monitor_ticks, stay_cost, handler_cost}
use Rattle.code_cost_spec.specs.Heights.{expr_height, stmts_height, answers_height, routine_height, handler_height}
use Rattle.code_cost_spec.specs.Lengths.{check_length, expr_length, stmts_length, answers_length, monitor_length, handler_length}
use Rattle.code_cost_spec.specs.Levels.{routine_names, process_names, calls_of}
use Rattle.code_measures.specs.Sound.{SoundAnswers, SoundRoutine, SoundHandler, SoundProcess}
use Rattle.codegen_spec.specs.Told.{range_told}
use Rattle.code_cost.specs.declared.measure.Measure.{Measure}
use Rattle.code_cost.specs.declared.measure.RoutineMeasure.{RoutineMeasure}
use Rattle.code_cost.specs.Sums.{held, of, joined}
use Rattle.code_cost.specs.Forms.{check, stmts_size}
use Rattle.code_cost.specs.Parts.{answers_size, inner_size, frame_size, stay_time, row_of, handler_size, loop_words, part_size, process_size}
use Rattle.code_measures.specs.MeasuredTexts.{measured, IsRow, AllBoundsFit}
use Rattle.code_measures.proofs.Sums.{same, joined_is, of_is, measured_same}
use Rattle.code_measures.proofs.CostExprs.{check_is}
use Rattle.code_measures.proofs.CostStmts.{expressions, statements, none}
use Rattle.code_cost.specs.Sizes.{IsRowOf, IsSizeOf}
use Rattle.code_measures.specs.Defined.{HandlerLoopsFit}

-- ---- ends

-- a routine with what enters and leaves it
framed : (o : Owner) (c : Cost) (h n : ℕ) → joined (measured c h n) (frame_size o) ≡ measured (longer (4 + monitor_ticks o) c) h (n + monitor_length o + 1)
framed by_program c h n = same (omega arith) (omega arith) (omega arith) (omega arith) (omega arith)
framed (by_process k) c h n = same (omega arith) (omega arith) (omega arith) (omega arith) (omega arith)
framed (by_monitor m) c h n = same (omega arith) (omega arith) (omega arith) (omega arith) (omega arith)

module _ (g : Program) (rows : List RoutineMeasure) where
  abbrev Told : Text → Type 0
  Told y = IsRow g rows (calls_of g) y

  answers_are : (c : Scope) (a : Option Answers) → SoundAnswers g (λ y. Told y) c a
      → answers_size g c rows a ≡ measured (answers_cost g (names_of g c) (calls_of g) a) (answers_height g c.owner (calls_of g) a) (answers_length g (names_of g c) a)
  answers_are c None ok = none
  answers_are c (Some a) ok =
      let x = expr_cost g (names_of g c) (calls_of g) a.value in
      let h = expr_height g c.owner (calls_of g) a.value in
      let n = expr_length g c.owner a.value in
      let r = range_of g a.kind in
      ap (λ y. joined y (check (range_told g a.kind))) (expressions g rows (calls_of g) c a.value ok)
      ∙ ap (λ y. joined (measured x h n) y) (check_is r)
      ∙ joined_is x (run (check_ticks r)) h 0 n (check_length r)
      ∙ measured_same _ _ _ _ _ _ refl refl refl (omega arith) refl

  -- ---- routines

  abbrev inner_length : Text → ℕ
  inner_length t = stmts_length g (routine_names g t) t.routine.body + answers_length g (routine_names g t) t.routine.answers

  inner_is : (t : Text) → SoundRoutine g (λ y. Told y) t → AllBoundsFit g t.routine.body
      → inner_size g (routine_scope g t) rows t.routine ≡ measured (inner_cost g (routine_names g t) (calls_of g) t.routine) (routine_height g t.owner (calls_of g) t.routine) (inner_length t)
  inner_is t ok fits =
      let c = routine_scope g t in
      let n = routine_names g t in
      let r = t.routine in
      ap (λ y. joined y (answers_size g c rows r.answers)) (statements g rows (calls_of g) c r.body ok.0 fits)
      ∙ ap (λ y. joined (measured (stmts_cost g n (calls_of g) r.body) (stmts_height g t.owner (calls_of g) r.body) (stmts_length g n r.body)) y) (answers_are c r.answers ok.1)
      ∙ joined_is (stmts_cost g n (calls_of g) r.body) (answers_cost g n (calls_of g) r.answers) (stmts_height g t.owner (calls_of g) r.body) (answers_height g t.owner (calls_of g) r.answers)
      (stmts_length g n r.body) (answers_length g n r.answers)

  stays : (o : Owner) (n : Names) (r : Routine) → stay_time o (capped (inner_cost g n (calls_of g) r)) ≡ cap (stay_cost g n (calls_of g) o r)
  stays by_program n r = omega arith
  stays (by_process k) n r = omega arith
  stays (by_monitor m) n r = omega arith

  -- the row of a routine, from those before it
  abbrev pub next_row : Text → RoutineMeasure
  next_row t = row_of g (routine_scope g t) (routine_vars_words g t.routine) rows t.routine

  pub row_is_of : (t : Text) → SoundRoutine g (λ y. Told y) t → AllBoundsFit g t.routine.body → IsRowOf g t (next_row t)
  row_is_of t ok fits =
      let is = inner_is t ok fits in
      let whole = ap (λ i. joined i (frame_size t.owner)) is ∙ framed t.owner (inner_cost g (routine_names g t) (calls_of g) t.routine) (routine_height g t.owner (calls_of g) t.routine) (inner_length t) in
      record {
        cost = ap (λ m. m.cost) whole;
        stay = ap (λ m. stay_time t.owner m.cost) is ∙ stays t.owner (routine_names g t) t.routine;
        height = ap (λ m. m.height) whole;
        words = refl;
        length = ap (λ m. m.length) whole;
      }

  -- ---- processes

  handler_is : (c : Scope) (h : Option Handler) → SoundHandler g (λ y. Told y) c h → HandlerLoopsFit g h
      → handler_size g c rows h ≡ measured (handler_cost g (names_of g c) (calls_of g) h) (handler_height g c.owner (calls_of g) h) (handler_length g (names_of g c) h)
  handler_is c None ok fits = none
  handler_is c (Some h) ok fits =
      let x = stmts_cost g (names_of g c) (calls_of g) h.body in
      let j = stmts_height g c.owner (calls_of g) h.body in
      let n = stmts_length g (names_of g c) h.body in
      ap (λ y. joined y (of 0 0 1)) (statements g rows (calls_of g) c h.body ok fits)
      ∙ ap (λ y. joined (measured x j n) y) (of_is 0 0 1 (omega arith) (omega arith) (omega arith))
      ∙ joined_is x (run 0) j 0 n 1
      ∙ measured_same _ _ _ _ _ _ (omega arith) (omega arith) (omega arith) (omega arith) refl

  part_is : (k : ℕ) (p : Process) → SoundProcess g (λ y. Told y) k p → AllBoundsFit g p.body × HandlerLoopsFit g p.handler
      → part_size g (process_scope g k p) rows p
      ≡ measured (longer 4 (plus (stmts_cost g (process_names g k p) (calls_of g) p.body) (handler_cost g (process_names g k p) (calls_of g) p.handler)))
      (max (stmts_height g (by_process k) (calls_of g) p.body) (handler_height g (by_process k) (calls_of g) p.handler))
      (stmts_length g (process_names g k p) p.body + 1 + handler_length g (process_names g k p) p.handler)
  part_is k p ok fits =
      let c = process_scope g k p in
      let n = process_names g k p in
      let x = stmts_cost g n (calls_of g) p.body in
      let j = stmts_height g (by_process k) (calls_of g) p.body in
      let l = stmts_length g n p.body in
      let y = handler_cost g n (calls_of g) p.handler in
      let i = handler_height g (by_process k) (calls_of g) p.handler in
      let m = handler_length g n p.handler in
      ap (λ z. joined (joined z (handler_size g c rows p.handler)) (of 4 0 1)) (statements g rows (calls_of g) c p.body ok.0 fits.0)
      ∙ ap (λ z. joined (joined (measured x j l) z) (of 4 0 1)) (handler_is c p.handler ok.1 fits.1)
      ∙ ap (λ z. joined z (of 4 0 1)) (joined_is x y j i l m)
      ∙ ap (λ z. joined (measured (plus x y) (max j i) (l + m)) z) (of_is 4 0 1 (omega arith) (omega arith) (omega arith))
      ∙ joined_is (plus x y) (run 4) (max j i) 0 (l + m) 1
      ∙ measured_same _ _ _ _ _ _ (omega arith) (omega arith) (omega arith) (omega arith) (omega arith)

  held_above : (a b : ℕ) → held (a + held b) ≡ held (a + b)
  held_above a b = omega arith

  pub size_is_of : (k : ℕ) (p : Process) → SoundProcess g (λ y. Told y) k p → AllBoundsFit g p.body × HandlerLoopsFit g p.handler
      → IsSizeOf g k p (process_size g (process_scope g k p) rows p)
  size_is_of k p ok fits =
      let is = part_is k p ok fits in
      record {
        cost = ap (λ m. m.cost) is;
        stack = ap (λ m. held (loop_words p + m.height)) is ∙ held_above (frame_words p) (max (stmts_height g (by_process k) (calls_of g) p.body) (handler_height g (by_process k) (calls_of g) p.handler));
        length = ap (λ m. m.length) is;
      }

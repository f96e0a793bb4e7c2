-- The measure of a routine from those before it, of a process, and of a whole program.
use Rattle.std.specs.Prelude.{ℕ, zero, suc, ◌+◌, max, List, [], ◌∷◌, ◌++◌, Option, Some, None}
use Rattle.syntax_tree.specs.Plain.{Answers, Routine, Handler, Process, Program}
use Rattle.base.specs.declared.capped.Cost.{Cost}
use Rattle.base.specs.Capped.{cap}
use Rattle.source_semantics.specs.Names.{processes}
use Rattle.code_spec.specs.Layout.{Owner, by_program, by_process, by_monitor, Scope, routine_vars_words, loops, handler_loops}
use Rattle.code_spec.specs.Numbering.{Text, numbered}
use Rattle.code_spec.specs.Compiled.{routine_scope, process_scope}
use Rattle.codegen_spec.specs.Told.{range_told}
use Rattle.code_cost.specs.declared.measure.Measure.{Measure}
use Rattle.code_cost.specs.declared.measure.RoutineMeasure.{RoutineMeasure}
use Rattle.code_cost.specs.declared.program.ProcessMeasure.{ProcessMeasure}
use Rattle.code_cost.specs.declared.program.Measures.{Measures}
use Rattle.code_cost.specs.Sums.{held, nothing, of, joined, added, running}
use Rattle.code_cost.specs.Forms.{check, expr_size, stmts_size}

-- ---- routines

-- the result of a function, and the check of its range
abbrev pub answers_size : Program → Scope → List RoutineMeasure → Option Answers → Measure
answers_size g c rows None = nothing
answers_size g c rows (Some a) = joined (expr_size g c rows a.value) (check (range_told g a.kind))

-- body and result
abbrev pub inner_size : Program → Scope → List RoutineMeasure → Routine → Measure
inner_size g c rows r = joined (stmts_size g c rows nothing r.body) (answers_size g c rows r.answers)

-- ENTER and LEAVE of an entry, and RET or RETV
abbrev pub frame_size : Owner → Measure
frame_size by_program = of 4 0 1
frame_size (by_process k) = of 4 0 1
frame_size (by_monitor m) = of 12 0 3

-- how long an entry stays in its monitor: body and result, and LEAVE
abbrev pub stay_time : Owner → Cost → ℕ
stay_time by_program c = 0
stay_time (by_process k) c = 0
stay_time (by_monitor m) c = cap (c.run + 3)

-- what is known of a routine with so many words of parameters and variables
abbrev pub row_of : Program → Scope → (words : ℕ) → List RoutineMeasure → Routine → RoutineMeasure
row_of g c w rows r = record {
  cost = (joined (inner_size g c rows r) (frame_size c.owner)).cost;
  stay = stay_time c.owner (inner_size g c rows r).cost;
  height = (joined (inner_size g c rows r) (frame_size c.owner)).height;
  words = held (w + loops r.body);
  length = (joined (inner_size g c rows r) (frame_size c.owner)).length;
}

-- the rows of routines behind those that are there
abbrev pub rows_from : Program → List Text → List RoutineMeasure → List RoutineMeasure
rows_from g [] rows = rows
rows_from g (t ∷ ts) rows = rows_from g ts (rows ++ row_of g (routine_scope g t) (routine_vars_words g t.routine) rows t.routine ∷ [])

-- all routines, by number
abbrev pub rows_of : Program → List RoutineMeasure
rows_of g = rows_from g (numbered g) []

-- ---- processes

abbrev pub handler_size : Program → Scope → List RoutineMeasure → Option Handler → Measure
handler_size g c rows None = nothing
handler_size g c rows (Some h) = joined (stmts_size g c rows nothing h.body) (of 0 0 1)

-- the words of the loops of body and handler
abbrev pub loop_words : Process → ℕ
loop_words p = loops p.body + handler_loops p.handler

-- body, handler and END; behind the handler its own END, which costs nothing more
abbrev pub part_size : Program → Scope → List RoutineMeasure → Process → Measure
part_size g c rows p = joined (joined (stmts_size g c rows nothing p.body) (handler_size g c rows p.handler)) (of 4 0 1)

abbrev pub process_size : Program → Scope → List RoutineMeasure → Process → ProcessMeasure
process_size g c rows p = record {
  cost = (part_size g c rows p).cost;
  stack = held (loop_words p + (part_size g c rows p).height);
  length = (part_size g c rows p).length;
}

-- the processes from a number on, behind those that are there
abbrev pub sizes_from : Program → List RoutineMeasure → ℕ → List Process → List ProcessMeasure → List ProcessMeasure
sizes_from g rows n [] sizes = sizes
sizes_from g rows n (p ∷ ps) sizes = sizes_from g rows (n + 1) ps (sizes ++ process_size g (process_scope g n p) rows p ∷ [])

-- a whole program
abbrev pub measures_of : Program → Measures
measures_of g = record { routines = rows_of g; processes = sizes_from g (rows_of g) 0 (processes g) [] }

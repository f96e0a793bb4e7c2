-- What the measures of a program tell of its instructions and its stacks.
use Rattle.std.specs.Prelude.{◌+◌, ℕ, suc, List, [], ◌∷◌, Option, Some, None, slice_get, sum_by, nat_lt, if◌then◌else◌}
use Rattle.syntax_tree.specs.Placed.{Routine, Process, Decl, constant, device, event, routine, monitor, process, plain_routine}
use Rattle.syntax_tree.specs.Plain as plain_of
use Rattle.syntax_tree.specs.declared.place.Place.{Place}
use Rattle.static_rule.specs.declared.violation.Violation.{Violation}
use Rattle.static_rule.specs.Parts.{Rule}
use Rattle.code_spec.specs.Layout.{Owner, by_program, by_process, by_monitor}
use Rattle.code_spec.specs.Numbering as numbering
use Rattle.code_cost.specs.declared.measure.RoutineMeasure.{RoutineMeasure}
use Rattle.code_cost.specs.declared.program.ProcessMeasure.{ProcessMeasure}
use Rattle.code_cost.specs.declared.program.Measures.{Measures}
use Rattle.code_cost.specs.Rules.{PlacedText}

-- ---- instructions

-- those of routines and of processes
abbrev pub length_told : Measures → ℕ
length_told m = sum_by (λ row. row.length) m.routines + sum_by (λ size. size.length) m.processes

-- the rule for so many instructions, where it fails
abbrev pub code_broken : Place → ℕ → Option Violation
code_broken place length = if nat_lt 65535 length then Some (record { number = 46; place = place }) else None

-- ---- stacks

-- the place, where a stack of so many words is too large
abbrev pub over_stack : Place → (words : ℕ) → Option Place
over_stack place words = if nat_lt 4096 words then Some place else None

abbrev pub row_over : Place → Option RoutineMeasure → Option Place
row_over place None = None
row_over place (Some row) = over_stack place (row.words + row.height)

abbrev pub size_over : Place → Option ProcessMeasure → Option Place
size_over place None = None
size_over place (Some size) = over_stack place size.stack

abbrev pub plain_text : PlacedText → numbering.Text
plain_text t = record { owner = t.owner; routine = plain_routine t.routine }

-- the place of a routine or an entry, where its row says that it takes too many words by itself
abbrev pub routine_over : plain_of.Program → Measures → PlacedText → Option Place
routine_over g m t = row_over t.routine.place (slice_get m.routines (numbering.number_of g (plain_text t)))

-- the place of process k, where its size says that its stack is too large
abbrev pub process_over : Measures → ℕ → Process Place → Option Place
process_over m k p = size_over p.place (slice_get m.processes k)

-- what has a stack: a routine or an entry, or a process with its number
pub data Part : Type 0 where
  routine_part : PlacedText → Part
  process_part : ℕ → Process Place → Part

abbrev pub part_over : plain_of.Program → Measures → Part → Option Place
part_over g m (routine_part t) = routine_over g m t
part_over g m (process_part k p) = process_over m k p

abbrev pub stack_rules : plain_of.Program → Measures → List (Rule Part)
stack_rules g m = record { number = 47; fails = part_over g m } ∷ []

-- routines of one owner, and then more
abbrev pub routine_parts : Owner → List (Routine Place) → List Part → List Part
routine_parts o [] more = more
routine_parts o (r ∷ rs) more = routine_part (record { owner = o; routine = r }) ∷ routine_parts o rs more

-- all that declarations have, the processes and monitors from these numbers on
abbrev pub parts_from : ℕ → ℕ → List (Decl Place) → List Part
parts_from k m [] = []
parts_from k m (routine r ∷ ds) = routine_part (record { owner = by_program; routine = r }) ∷ parts_from k m ds
parts_from k m (monitor d ∷ ds) = routine_parts (by_monitor m) d.entries (parts_from k (suc m) ds)
parts_from k m (process p ∷ ds) = process_part k p ∷ routine_parts (by_process k) p.routines (parts_from (suc k) m ds)
parts_from k m (constant n p c ∷ ds) = parts_from k m ds
parts_from k m (device n p is_out ∷ ds) = parts_from k m ds
parts_from k m (event n p ∷ ds) = parts_from k m ds

-- The measures of a program are those that are defined of it, up to where they are counted.
use Rattle.std.specs.Prelude.{◌≡◌, ℕ, Some, length, slice_get}
use Rattle.syntax_tree.specs.Plain.{Process, Program}
use Rattle.base.specs.Capped.{cap}
use Rattle.source_semantics.specs.Names.{processes}
use Rattle.code_spec.specs.Layout.{routine_words}
use Rattle.code_spec.specs.Numbering.{Text, numbered}
use Rattle.valid_image.specs.Found.{capped}
use Rattle.code_cost_spec.specs.Heights.{routine_height}
use Rattle.code_cost_spec.specs.Lengths.{routine_length, process_length}
use Rattle.code_cost_spec.specs.Levels.{routine_names, process_names, calls_of, cost_of_routine, stay_of_entry, cost_of_process, stack_of_process}
use Rattle.code_cost.specs.declared.measure.RoutineMeasure.{RoutineMeasure}
use Rattle.code_cost.specs.declared.program.ProcessMeasure.{ProcessMeasure}
use Rattle.code_cost.specs.declared.program.Measures.{Measures}
use Rattle.code_cost.specs.Sums.{held}

-- a row tells what is defined of a routine, each number up to where it is counted
pub record IsRowOf (g : Program) (t : Text) (row : RoutineMeasure) : Type 0 where
  pub cost : row.cost ≡ capped (cost_of_routine g t)
  pub stay : row.stay ≡ cap (stay_of_entry g t)
  pub height : row.height ≡ held (routine_height g t.owner (calls_of g) t.routine)
  pub words : row.words ≡ held (routine_words g t.routine)
  pub length : row.length ≡ held (routine_length g (routine_names g t) t)

-- so does a size of process k
pub record IsSizeOf (g : Program) (k : ℕ) (p : Process) (size : ProcessMeasure) : Type 0 where
  pub cost : size.cost ≡ capped (cost_of_process g k p)
  pub stack : size.stack ≡ held (stack_of_process g k p)
  pub length : size.length ≡ held (process_length g (process_names g k p) p)

-- a row for each routine by number, and a size for each process
pub record AreDefined (g : Program) (measures : Measures) : Type 0 where
  pub rows : length measures.routines ≡ length (numbered g)
  pub sizes : length measures.processes ≡ length (processes g)
  pub routines : (r : ℕ) (t : Text) (row : RoutineMeasure) → slice_get (numbered g) r ≡ Some t → slice_get measures.routines r ≡ Some row → IsRowOf g t row
  pub bodies : (k : ℕ) (p : Process) (size : ProcessMeasure) → slice_get (processes g) k ≡ Some p → slice_get measures.processes k ≡ Some size → IsSizeOf g k p size

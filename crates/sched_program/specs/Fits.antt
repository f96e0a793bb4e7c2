-- What fits of a program.
use Rattle.std.specs.Prelude.{◌≡◌, ◌≤◌, ◌-◌, ℕ, List, Option, Some, None, length, slice_get}
use Rattle.syntax_tree.specs.Plain.{Process, Program}
use Rattle.source_semantics.specs.Names.{processes}
use Rattle.source_semantics.specs.Ranks.{rank}
use Rattle.sched_response.specs.declared.tasks.Task.{Task}
use Rattle.sched_sensitivity.specs.declared.rows.ProcessFit.{ProcessFit}
use Rattle.sched_sensitivity.specs.Rows.{IsFitOf}
use Rattle.sched_sensitivity.specs.Lines.{fits_text}
use Rattle.sched_program.specs.Tasks.{AreTasksOf, IsInTime}

-- ---- the overhead

-- the greatest overhead of at most 1,000 ticks with which the program is in time
pub record IsGreatestOverhead (g : Program) (over : ℕ) : Type 0 where
  pub in_range : over ≤ 1000
  pub fits : IsInTime g over
  pub greatest : (other : ℕ) → other ≤ 1000 → IsInTime g other → other ≤ over

-- that overhead; none exactly where the program is not in time without one
abbrev pub IsOverheadOf : Program → Option ℕ → Type 0
IsOverheadOf g None = ¬ IsInTime g 0
IsOverheadOf g (Some over) = IsGreatestOverhead g over

-- ---- the text

-- The text tells what fits of the program: which overhead, and, one number changed at a time, which
-- costs and suspensions beside this overhead.
pub record IsFitText (g : Program) (over : ℕ) (text : List ℕ) : Type 0 where
  pub greatest : Option ℕ
  pub is_greatest : IsOverheadOf g greatest
  pub tasks : List Task
  pub are : AreTasksOf g over tasks
  pub rows : List ProcessFit
  pub one_each : length rows ≡ length (processes g)
  pub each : (k : ℕ) (p : Process) (fit : ProcessFit) → slice_get (processes g) k ≡ Some p → slice_get rows k ≡ Some fit → IsFitOf tasks (rank g k - 1) p.name fit
  pub is : text ≡ fits_text greatest rows

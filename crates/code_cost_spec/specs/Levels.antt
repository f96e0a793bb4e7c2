-- The cost and the heights of a whole program: a routine's after those that it calls.
use Rattle.std.specs.Prelude.{ℕ, zero, suc, ◌+◌, List, [], ◌∷◌}
use Rattle.syntax_tree.specs.Plain.{Process, Program}
use Rattle.base.specs.declared.capped.Cost.{Cost}
use Rattle.source_semantics.specs.Names.{processes, routine_count}
use Rattle.code_spec.specs.Layout.{by_process}
use Rattle.code_spec.specs.Numbering.{Text, numbered}
use Rattle.code_spec.specs.Compiled.{routine_scope, process_scope}
use Rattle.code_cost_spec.specs.Names.{Names, Calls, names_of}
use Rattle.code_cost_spec.specs.Costs.{run, routine_cost, stay_cost, process_cost}
use Rattle.code_cost_spec.specs.Heights.{routine_height, stack_of}
use Rattle.code_cost_spec.specs.Lengths.{routine_length, process_length}

abbrev pub routine_names : Program → Text → Names
routine_names g t = names_of g (routine_scope g t)

abbrev pub process_names : Program → ℕ → Process → Names
process_names g k p = names_of g (process_scope g k p)

-- what is known of routines where calls nest at most so deep
unfoldable pub calls_at : ℕ → Program → Calls
calls_at zero g = record { cost = λ t. run 0; height = λ t. 0 }
calls_at (suc n) g = record {
  cost = λ t. routine_cost g (routine_names g t) (calls_at n g) t;
  height = λ t. routine_height g t.owner (calls_at n g) t.routine;
}

-- calls nest at most as deep as there are routines
abbrev pub calls_of : Program → Calls
calls_of g = calls_at (routine_count g) g

-- ---- what is declared of a program

-- a routine's cost, from behind its CALL on
abbrev pub cost_of_routine : Program → Text → Cost
cost_of_routine g t = routine_cost g (routine_names g t) (calls_of g) t

-- how long an entry stays in its monitor
abbrev pub stay_of_entry : Program → Text → ℕ
stay_of_entry g t = stay_cost g (routine_names g t) (calls_of g) t.owner t.routine

-- the cost of a process, dispatches left aside
abbrev pub cost_of_process : Program → ℕ → Process → Cost
cost_of_process g k p = process_cost g (process_names g k p) (calls_of g) p

-- the words of stack that a process takes
abbrev pub stack_of_process : Program → ℕ → Process → ℕ
stack_of_process g k p = stack_of g (by_process k) (calls_of g) p

-- ---- the number of instructions

abbrev pub processes_length : Program → ℕ → List Process → ℕ
processes_length g k [] = 0
processes_length g k (p ∷ ps) = process_length g (process_names g k p) p + processes_length g (suc k) ps

abbrev pub routines_length : Program → List Text → ℕ
routines_length g [] = 0
routines_length g (t ∷ ts) = routine_length g (routine_names g t) t + routines_length g ts

-- that of all routines by number, and then all processes
abbrev pub code_length : Program → ℕ
code_length g = routines_length g (numbered g) + processes_length g 0 (processes g)

-- The tasks of a program: what each of its processes asks of the processor, and how long it can be
-- held up. All of it is told of the text.
use Rattle.std.specs.Prelude.{◌≡◌, ◌≤◌, ◌<◌, ◌+◌, ◌-◌, ◌*◌, ◌||◌, ◌++◌, ℕ, zero, suc, Bool, true, false, List, [], ◌∷◌, Option, Some, None, IsSomeAnd, length, slice_get}
use Rattle.syntax_tree.specs.Plain.{Process, Program, Routine}
use Rattle.base.specs.Capped.{cap}
use Rattle.base.specs.declared.capped.Cost.{Cost}
use Rattle.source_semantics.specs.Names.{processes, routine_count, frame_of, deadline_of}
use Rattle.source_semantics.specs.Ranks.{rank, ceiling, handler_body}
use Rattle.code_spec.specs.Layout.{by_monitor, by_process}
use Rattle.code_spec.specs.Numbering.{Text, Called, called_text, stmts_calls, routine_calls, numbered, same_text}
use Rattle.code_cost_spec.specs.Levels.{cost_of_process, stay_of_entry}
use Rattle.sched_response.specs.declared.tasks.Task.{Task}
use Rattle.sched_response.specs.Demand.{task_at, Solves, IsBound}
use Rattle.sched_response.specs.Ranked.{IsGreatest}

-- ---- who comes to an entry

-- the text that a call names, if it names one, passes the test
abbrev pub passes_some : (Text → Bool) → Option Text → Bool
passes_some test None = false
passes_some test (Some t) = test t

-- one of the texts that the calls name passes it
abbrev pub some_called : (Text → Bool) → (Called → Option Text) → List Called → Bool
some_called test means [] = false
some_called test means (c ∷ cs) = passes_some test (means c) || some_called test means cs

-- what the body and the handler of a process call
abbrev pub process_calls : Process → List Called
process_calls p = stmts_calls p.body ++ stmts_calls (handler_body p.handler)

-- a text is the one that is looked for, or comes to it by calls that are nested at most so deep
unfoldable pub comes_to : (depth : ℕ) → Program → (goal : Text) → Text → Bool
comes_to zero g goal t = same_text goal t
comes_to (suc n) g goal t = same_text goal t || some_called (comes_to n g goal) (called_text g t.owner) (routine_calls t.routine)

-- process k comes to it from its body or its handler; calls are nested at most as deep as there are
-- routines
abbrev pub process_comes_to : Program → (goal : Text) → (k : ℕ) → Process → Bool
process_comes_to g goal k p = some_called (comes_to (routine_count g) g goal) (called_text g (by_process k)) (process_calls p)

-- ---- blocks

-- an entry in which a process of a lower rank can stay, for so many ticks, where a process of this
-- rank has to wait until it has left: the entry's monitor has a ceiling of at most this rank
pub record IsLowerStay (g : Program) (held_up ticks : ℕ) : Type 0 where
  pub number : ℕ
  pub process : Process
  pub there : slice_get (processes g) number ≡ Some process
  pub lower : held_up < rank g number
  pub monitor : ℕ
  pub reaches_up : IsSomeAnd (ceiling g monitor) (λ c. c ≤ held_up)
  pub entry : Routine
  pub at : ℕ
  pub declared : slice_get (numbered g) at ≡ Some (record { owner = by_monitor monitor; routine = entry })
  pub called : process_comes_to g (record { owner = by_monitor monitor; routine = entry }) number process ≡ true
  pub stays : ticks ≡ cap (stay_of_entry g (record { owner = by_monitor monitor; routine = entry }))

-- the block of a rank: the longest such stay, 0 where there is none
abbrev pub IsBlock : Program → (held_up block : ℕ) → Type 0
IsBlock g held_up block = IsGreatest (IsLowerStay g held_up) block

-- ---- tasks

-- each activation and each wait brings two dispatches of so many ticks
abbrev pub with_dispatches : (over : ℕ) → Cost → ℕ
with_dispatches over c = c.run + 2 * over * (1 + c.waits)

-- what an activation of process k asks for, and what it is held up, each up to where it is counted
pub record IsTaskOf (g : Program) (over k : ℕ) (p : Process) (t : Task) : Type 0 where
  pub frame : t.frame ≡ frame_of g p.activation
  pub deadline : t.deadline ≡ deadline_of g p.activation
  pub run : t.run ≡ cap (with_dispatches over (cost_of_process g k p))
  pub susp : t.susp ≡ cap (cost_of_process g k p).susp
  pub waits : t.waits ≡ cap (cost_of_process g k p).waits
  pub block : IsBlock g (rank g k) t.block

-- The tasks of a program with an overhead: one for each process, in the order of ranks, which count
-- from 1 and go by deadlines (Leung and Whitehead).
pub record AreTasksOf (g : Program) (over : ℕ) (ts : List Task) : Type 0 where
  pub one_each : length ts ≡ length (processes g)
  pub each : (k : ℕ) (p : Process) → slice_get (processes g) k ≡ Some p → IsTaskOf g over k p (task_at ts (rank g k - 1))

-- ---- in time

-- the recurrence of each process (Burns and Wellings) has a solution within its deadline
pub record IsInTime (g : Program) (over : ℕ) : Type 0 where
  pub tasks : List Task
  pub are : AreTasksOf g over tasks
  pub each : (level : ℕ) → level < length tasks → (r : ℕ) × Solves tasks level r

-- that of some process has none
pub record IsNotInTime (g : Program) (over : ℕ) : Type 0 where
  pub tasks : List Task
  pub are : AreTasksOf g over tasks
  pub level : ℕ
  pub there : level < length tasks
  pub unsolved : (r : ℕ) → ¬ Solves tasks level r

-- the bound of process k: the least solution, if there is one
pub record IsBoundOf (g : Program) (over k bound : ℕ) : Type 0 where
  pub tasks : List Task
  pub are : AreTasksOf g over tasks
  pub least : IsBound tasks (rank g k - 1) bound

-- No number of a program is cut off where it becomes an operand, and its code is not too long.
use Rattle.std.specs.Prelude.{◌≡◌, ◌≤◌, ℕ, false, Option, Some, None, slice_get}
use Rattle.syntax_tree.specs.Plain.{Answers, Handler, Process, Program}
use Rattle.source_semantics.specs.Names.{processes}
use Rattle.source_semantics.specs.Store.{range_of}
use Rattle.code_spec.specs.Layout.{Owner, by_program, by_process, by_monitor, Scope, loops, routine_vars_words}
use Rattle.code_spec.specs.Numbering.{Text, numbered}
use Rattle.code_spec.specs.Compiled.{routine_scope, process_scope}
use Rattle.code_cost_spec.specs.Levels.{code_length}
use Rattle.codegen_law.specs.MadeRightFits.{RangeFits, ExprFits, StmtsFit}

-- the result of a function, with the range of its type
abbrev pub AnswersFit : Program → Scope → Option Answers → Type 0
AnswersFit g c None = Unit {0}
AnswersFit g c (Some a) = ExprFits g c a.value × RangeFits (range_of g a.kind)

-- the number of the monitor whose entry it is
abbrev pub OwnerFits : Owner → Type 0
OwnerFits by_program = Unit {0}
OwnerFits (by_process k) = Unit {0}
OwnerFits (by_monitor m) = m ≤ 65535

pub record RoutineFits (g : Program) (t : Text) : Type 0 where
  pub owner : OwnerFits t.owner
  pub body : StmtsFit g (routine_scope g t) false (routine_vars_words g t.routine) t.routine.body
  pub answers : AnswersFit g (routine_scope g t) t.routine.answers

-- a handler, whose first loop has its variable at this word of the frame
abbrev pub HandlerFits : Program → Scope → ℕ → Option Handler → Type 0
HandlerFits g c w None = Unit {0}
HandlerFits g c w (Some h) = StmtsFit g c false w h.body

pub record ProcessFits (g : Program) (k : ℕ) (p : Process) : Type 0 where
  pub body : StmtsFit g (process_scope g k p) false 0 p.body
  pub handler : HandlerFits g (process_scope g k p) (loops p.body) p.handler

-- the texts of a program, and the number of instructions that they have together
pub record ProgramFits (g : Program) : Type 0 where
  pub routines : (r : ℕ) (t : Text) → slice_get (numbered g) r ≡ Some t → RoutineFits g t
  pub bodies : (k : ℕ) (p : Process) → slice_get (processes g) k ≡ Some p → ProcessFits g k p
  pub code : code_length g ≤ 65535

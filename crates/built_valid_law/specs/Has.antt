-- What it takes that each instruction of the code of a text has a property: by cases over the text.
use Rattle.std.specs.Prelude.{◌+◌, ℕ, suc, List, [], ◌∷◌, ◌++◌, Option, Some, None, pos}
use Rattle.syntax_tree.specs.Plain.{Stmt, assign, assign_entry, assign_empty, perform, perform_entry, when, when_else, loop, exit_when, get, put, wait, signal, broadcast, except, assert, Stmts, no_stmts, stmts, Answers, Handler, Process, Program}
use Rattle.source_semantics.specs.Names.{constant_value, count_value, device_number}
use Rattle.source_semantics.specs.Store.{range_of}
use Rattle.machine_isa.specs.declared.instr.Instr.{Instr}
use Rattle.machine_isa.specs.declared.instr.Instr.TheVariants as i
use Rattle.code_spec.specs.Layout.{Owner, by_program, by_process, by_monitor, Scope, loops_in, loops, routine_vars_words}
use Rattle.code_spec.specs.Numbering.{Text, routine_in, entry_in}
use Rattle.code_spec.specs.Code.{code_of, args_code, call_code, index_code, store_code, put_code, range_code}
use Rattle.code_spec.specs.Emits.{inner, turns_of, condition_of, monitor_of}
use Rattle.code_spec.specs.Compiled.{routine_scope, process_scope, enter_code}

-- each of these instructions
abbrev pub AllOf : (Instr → Type 0) → List Instr → Type 0
AllOf P [] = Unit {0}
AllOf P (j ∷ js) = P j × AllOf P js

-- every branch, whatever its address
pub record EachBranch (P : Instr → Type 0) : Type 0 where
  pub jump : (n : ℕ) → P (i.Jump (pos n))
  pub jump_zero : (n : ℕ) → P (i.JumpZero (pos n))
  pub repeat : (n : ℕ) → P (i.Repeat (pos n))
  pub exit : (n : ℕ) → P (i.Exit (pos n))

-- each instruction of a statement but its branches; its first loop in the text, if it has one, has
-- its variable at word w
abbrev mutual
  pub StmtHas : (Instr → Type 0) → Program → Scope → (w : ℕ) → Stmt → Type 0
  StmtHas P g c w (assign r e) = AllOf P (index_code g c r ++ (code_of g c e ++ put_code g c r))
  StmtHas P g c w (assign_entry r m e es) =
      AllOf P (index_code g c r ++ (call_code g (entry_in g m e) (λ ps. args_code g c es ps) ++ put_code g c r))
  StmtHas P g c w (assign_empty r x) =
      AllOf P (index_code g c r ++ (i.Empty (pos (condition_of g c.owner x)) ∷ store_code g c r))
  StmtHas P g c w (perform f es) = AllOf P (call_code g (routine_in g c.owner f) (λ ps. args_code g c es ps))
  StmtHas P g c w (perform_entry m e es) = AllOf P (call_code g (entry_in g m e) (λ ps. args_code g c es ps))
  StmtHas P g c w (when e a) = AllOf P (code_of g c e) × StmtsHave P g c w a
  StmtHas P g c w (when_else e a b) = AllOf P (code_of g c e) × StmtsHave P g c w a × StmtsHave P g c (w + loops a) b
  StmtHas P g c w (loop x low high ss) =
      AllOf P (i.Push (constant_value g low) ∷ i.StoreLocal (pos w) ∷ i.Repeats (pos (turns_of (constant_value g low) (constant_value g high))) ∷ [])
      × ((q : ℕ) → StmtsHave P g (inner c x w q) (suc w) ss)
      × AllOf P (i.LoadLocal (pos w) ∷ i.Push (pos 1) ∷ i.Add ∷ i.StoreLocal (pos w) ∷ [])
  StmtHas P g c w (exit_when e) = AllOf P (code_of g c e)
  StmtHas P g c w (get d r) = AllOf P (index_code g c r ++ (i.In (pos (device_number g d)) ∷ put_code g c r))
  StmtHas P g c w (put d e) = AllOf P (code_of g c e ++ (i.Out (pos (device_number g d)) ∷ []))
  StmtHas P g c w (wait x limit number) =
      AllOf P (i.Wait (pos (condition_of g c.owner x)) (pos (count_value g limit)) (pos (count_value g number)) ∷ i.Reenter (pos (monitor_of c.owner)) ∷ [])
  StmtHas P g c w (signal x) = P (i.Signal (pos (condition_of g c.owner x)))
  StmtHas P g c w (broadcast x) = P (i.Broadcast (pos (condition_of g c.owner x)))
  StmtHas P g c w (except n) = P (i.Raise (pos (count_value g n)))
  StmtHas P g c w (assert e) = AllOf P (code_of g c e) × P (i.Raise (pos 4))

  pub StmtsHave : (Instr → Type 0) → Program → Scope → (w : ℕ) → Stmts → Type 0
  StmtsHave P g c w no_stmts = Unit {0}
  StmtsHave P g c w (stmts s ss) = StmtHas P g c w s × StmtsHave P g c (w + loops_in s) ss

-- ---- routines

-- what a function answers, with the check of its range
abbrev pub AnswerHas : (Instr → Type 0) → Program → Scope → Answers → Type 0
AnswerHas P g c a = AllOf P (code_of g c a.value) × AllOf P (range_code (range_of g a.kind))

-- what ends a routine
abbrev pub EndHas : (Instr → Type 0) → Program → Scope → Option Answers → Type 0
EndHas P g c None = P i.Return
EndHas P g c (Some a) = AnswerHas P g c a × P i.ReturnValue

abbrev pub LeaveHas : (Instr → Type 0) → Owner → Type 0
LeaveHas P by_program = Unit {0}
LeaveHas P (by_process k) = Unit {0}
LeaveHas P (by_monitor m) = P (i.Leave (pos m))

-- each instruction of a routine
pub record RoutineHas (P : Instr → Type 0) (g : Program) (t : Text) : Type 0 where
  pub branches : EachBranch P
  pub enters : AllOf P (enter_code t.owner)
  pub body : StmtsHave P g (routine_scope g t) (routine_vars_words g t.routine) t.routine.body
  pub ends : EndHas P g (routine_scope g t) t.routine.answers
  pub leaves : LeaveHas P t.owner

-- ---- processes

abbrev pub HandlerHas : (Instr → Type 0) → Program → ℕ → Process → Option Handler → Type 0
HandlerHas P g k p None = Unit {0}
HandlerHas P g k p (Some h) = StmtsHave P g (process_scope g k p) (loops p.body) h.body

-- each instruction of a process, of its body and of its handler
pub record ProcessHas (P : Instr → Type 0) (g : Program) (k : ℕ) (p : Process) : Type 0 where
  pub branches : EachBranch P
  pub body : StmtsHave P g (process_scope g k p) 0 p.body
  pub handler : HandlerHas P g k p p.handler
  pub ends : P i.End

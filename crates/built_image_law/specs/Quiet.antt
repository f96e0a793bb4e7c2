-- Routines that reach no wait.
use Rattle.std.specs.Prelude.{◌≡◌, ℕ, zero, suc, Bool, true, false, not, ◌&&◌, ◌||◌, List, [], ◌∷◌, Option, Some, None, slice_get, Contains}
use Rattle.syntax_tree.specs.Plain.{Stmt, assign, assign_entry, assign_empty, perform, perform_entry, when, when_else, loop, exit_when, get, put, wait, signal, broadcast, except, assert, Stmts, no_stmts, stmts, Handler, Process, Program}
use Rattle.source_semantics.specs.Names.{processes, routine_count}
use Rattle.code_spec.specs.Layout.{by_process}
use Rattle.code_spec.specs.Numbering.{Text, Called, called_text, stmts_calls, routine_calls}
use Rattle.static_semantics.specs.WellFormed.{IsWellFormed}
use Rattle.codegen_law.specs.Ruled.{NamesApart}
use Rattle.code_measures.specs.Quiet.{AreQuiet}

-- there is a wait among the statements
abbrev mutual
  pub stmt_waits : Stmt → Bool
  stmt_waits (assign r e) = false
  stmt_waits (assign_entry r m e es) = false
  stmt_waits (assign_empty r x) = false
  stmt_waits (perform f es) = false
  stmt_waits (perform_entry m e es) = false
  stmt_waits (when e a) = stmts_wait a
  stmt_waits (when_else e a b) = stmts_wait a || stmts_wait b
  stmt_waits (loop i low high ss) = stmts_wait ss
  stmt_waits (exit_when e) = false
  stmt_waits (get d r) = false
  stmt_waits (put d e) = false
  stmt_waits (wait x limit number) = true
  stmt_waits (signal x) = false
  stmt_waits (broadcast x) = false
  stmt_waits (except n) = false
  stmt_waits (assert e) = false

  pub stmts_wait : Stmts → Bool
  stmts_wait no_stmts = false
  stmts_wait (stmts s ss) = stmt_waits s || stmts_wait ss

abbrev pub quiet_some : (Text → Bool) → Option Text → Bool
quiet_some quiet None = true
quiet_some quiet (Some t) = quiet t

-- all that the calls mean is quiet
abbrev pub all_quiet : (Text → Bool) → (Called → Option Text) → List Called → Bool
all_quiet quiet means [] = true
all_quiet quiet means (c ∷ cs) = quiet_some quiet (means c) && all_quiet quiet means cs

-- no wait is reached, by calls that are nested less deep than this
unfoldable pub quiet_within : ℕ → Program → Text → Bool
quiet_within zero g t = false
quiet_within (suc n) g t = not (stmts_wait t.routine.body) && all_quiet (quiet_within n g) (called_text g t.owner) (routine_calls t.routine)

-- the routine neither waits nor calls one that reaches a wait; calls are nested less deep than
-- there are routines
unfoldable pub reaches_no_wait : Program → Text → Bool
reaches_no_wait g t = quiet_within (routine_count g) g t

-- a handler does not wait, and calls what reaches no wait
pub record HandlerQuiet (g : Program) (k : ℕ) (h : Handler) : Type 0 where
  pub body : stmts_wait h.body ≡ false
  pub calls : (c : Called) (u : Text) → Contains (stmts_calls h.body) c → called_text g (by_process k) c ≡ Some u → reaches_no_wait g u ≡ true

abbrev pub HandlersQuiet : Program → Type 0
HandlersQuiet g = (k : ℕ) (p : Process) (h : Handler) → slice_get (processes g) k ≡ Some p → p.handler ≡ Some h → HandlerQuiet g k h

-- The law: where handlers are so, the routines that reach no wait are quiet, with all that they
-- call.
abbrev pub QuietProgramsAreQuiet : Type 0
QuietProgramsAreQuiet = (g : Program) → IsWellFormed g → NamesApart g → HandlersQuiet g → AreQuiet g (reaches_no_wait g)

-- Handlers that reach no wait.
use Rattle.std.specs.Prelude.{◌≡◌, ℕ, Bool, true, Option, Some, None, slice_get, length}
use Rattle.syntax_tree.specs.Plain.{Stmt, assign, assign_entry, assign_empty, perform, perform_entry, when, when_else, loop, exit_when, get, put, wait, signal, broadcast, except, assert, Stmts, no_stmts, stmts, Handler, Process, Program}
use Rattle.source_semantics.specs.Names.{processes}
use Rattle.code_spec.specs.Numbering.{Text, numbered}
use Rattle.code_spec.specs.Compiled.{process_scope}
use Rattle.code_measures.specs.Sound.{SoundRoutine, SoundAll}
use Rattle.code_measures.specs.Declared.{IsBelow}

-- no statement is a wait
abbrev mutual
  pub NoWait : Stmt → Type 0
  NoWait (assign r e) = Unit {0}
  NoWait (assign_entry r m e es) = Unit {0}
  NoWait (assign_empty r x) = Unit {0}
  NoWait (perform f es) = Unit {0}
  NoWait (perform_entry m e es) = Unit {0}
  NoWait (when e a) = NoWaits a
  NoWait (when_else e a b) = NoWaits a × NoWaits b
  NoWait (loop i low high ss) = NoWaits ss
  NoWait (exit_when e) = Unit {0}
  NoWait (get d r) = Unit {0}
  NoWait (put d e) = Unit {0}
  NoWait (wait x limit number) = ⊥
  NoWait (signal x) = Unit {0}
  NoWait (broadcast x) = Unit {0}
  NoWait (except n) = Unit {0}
  NoWait (assert e) = Unit {0}

  pub NoWaits : Stmts → Type 0
  NoWaits no_stmts = Unit {0}
  NoWaits (stmts s ss) = NoWait s × NoWaits ss

-- a routine of the set, below a number
pub record IsQuietBelow (quiet : Text → Bool) (g : Program) (r : ℕ) (t : Text) : Type 0 where
  pub is_quiet : quiet t ≡ true
  pub below : IsBelow g r t

abbrev pub QuietHandler : (Text → Bool) → Program → ℕ → Process → Option Handler → Type 0
QuietHandler quiet g k p None = Unit {0}
QuietHandler quiet g k p (Some h) = SoundAll g (λ y. IsQuietBelow quiet g (length (numbered g)) y) (process_scope g k p) h.body × NoWaits h.body

-- The routines of the set do not wait and call only one another; no handler waits, and each calls
-- only routines of the set.
pub record AreQuiet (g : Program) (quiet : Text → Bool) : Type 0 where
  pub routines : (r : ℕ) (t : Text) → slice_get (numbered g) r ≡ Some t → quiet t ≡ true → SoundRoutine g (λ y. IsQuietBelow quiet g r y) t × NoWaits t.routine.body
  pub handlers : (k : ℕ) (p : Process) → slice_get (processes g) k ≡ Some p → QuietHandler quiet g k p p.handler

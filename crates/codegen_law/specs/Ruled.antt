-- A program that keeps to the rules, as the law of one process takes them.
use Rattle.std.specs.Prelude.{◌≡◌, ℕ, Bool, true, ◌&&◌, List, [], ◌∷◌, Some, None, slice_get}
use Rattle.syntax_tree.specs.Plain.{Name, Routine, Monitor, Process, Program}
use Rattle.source_semantics.specs.Names.{named, routines, monitors, processes, routine_count}
use Rattle.source_semantics.specs.Ranks.{reached, monitors_of, includes}
use Rattle.code_spec.specs.Numbering.{Called, calls_routine, calls_entry, routine_calls}
use Rattle.codegen_law.specs.Kept.{NamesDiffer}

-- a call of a routine names one of the program
abbrev pub OfProgram : Program → Called → Type 0
OfProgram g (calls_routine f) = (r : Routine) × (named (λ k. k.name) f (routines g) ≡ Some r)
OfProgram g (calls_entry m e) = Unit {0}

abbrev pub AllOfProgram : Program → List Called → Type 0
AllOfProgram g [] = Unit {0}
AllOfProgram g (c ∷ cs) = OfProgram g c × AllOfProgram g cs

-- Names stand apart: those of routines and of entries differ, a process has no routine with the
-- name of one of the program's, and the program's routines and the entries call routines of the
-- program alone.
pub record NamesApart (g : Program) : Type 0 where
  pub differ : NamesDiffer g
  pub apart : (k : ℕ) (p : Process) (f : Name) (r : Routine) → slice_get (processes g) k ≡ Some p → named (λ x. x.name) f (routines g) ≡ Some r → named (λ x. x.name) f p.routines ≡ None
  pub routine_calls_program : (j : ℕ) (r : Routine) → slice_get (routines g) j ≡ Some r → AllOfProgram g (routine_calls r)
  pub entry_calls_program : (m : ℕ) (k : Monitor) (j : ℕ) (r : Routine) → slice_get (monitors g) m ≡ Some k → slice_get k.entries j ≡ Some r → AllOfProgram g (routine_calls r)

-- all of these numbers are among those
abbrev pub all_in : List ℕ → List ℕ → Bool
all_in [] ms = true
all_in (k ∷ ks) ms = includes k ms && all_in ks ms

-- the routines that a process may run: those from which it reaches no further monitors
abbrev pub runs_of : Program → Process → Name → Bool
runs_of g p f = all_in (reached g p (routine_count g) f) (monitors_of g p)

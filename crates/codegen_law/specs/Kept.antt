-- What the static rules give of a whole program, as far as its code comes to its meaning by it.
use Rattle.std.specs.Prelude.{◌≡◌, ℕ, List, Some, slice_get}
use Rattle.syntax_tree.specs.Plain.{Routine, Monitor, Process, Program}
use Rattle.source_semantics.specs.Names.{named, routines, monitors, processes}

-- each routine of a list is found by its name
abbrev pub AllFound : List Routine → Type 0
AllFound rs = (j : ℕ) (r : Routine) → slice_get rs j ≡ Some r → named (λ k. k.name) r.name rs ≡ Some r

-- the names of routines differ, and so do those of entries
pub record NamesDiffer (g : Program) : Type 0 where
  pub program : AllFound (routines g)
  pub process : (k : ℕ) (p : Process) → slice_get (processes g) k ≡ Some p → AllFound p.routines
  pub monitor : (m : ℕ) (k : Monitor) → slice_get (monitors g) m ≡ Some k → AllFound k.entries

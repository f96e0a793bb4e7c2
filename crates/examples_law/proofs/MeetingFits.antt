-- The program of the example is well formed, and its names stand apart.
use Rattle.std.proofs.Common.{◌≡◌, ℕ, zero, suc, [], ◌∷◌, Some, refl, ap, subst, ◌∙◌}
use Rattle.std.specs.Prelude.{slice_get}
use Rattle.base.proofs.Lists.{one_some}
use Rattle.syntax_tree.specs.Plain.{Name, Monitor, Routine}
use Rattle.source_semantics.specs.Names.{named, routines, monitors}
use Rattle.source_semantics_law.specs.Example.{signalled_wait}
use Rattle.examples_law.proofs.Small.{signalled_wait_fits}
use Rattle.code_spec.specs.Numbering.{routine_calls}
use Rattle.codegen_law.specs.Ruled.{AllOfProgram, NamesApart}
use Rattle.examples_law.specs.Headline.{MeetingIsWellFormed}
use Rattle.examples_law.proofs.MeetingProper.{m, names_differ}

nobody_named : (f : Name) (r : Routine) → named (λ (x : Routine). x.name) f [] ≡ Some r → ⊥
nobody_named f r at = cc

pub names_apart : NamesApart signalled_wait
names_apart = record { differ = names_differ; apart = λ k p f r at found. absurd (nobody_named f r found); routine_calls_program = λ j r at. absurd (none_there j r at); entry_calls_program = entries_call } where
  none_there : (j : ℕ) (r : Routine) → slice_get (routines signalled_wait) j ≡ Some r → ⊥
  none_there j r at = cc

  entries_call : (m : ℕ) (k : Monitor) (j : ℕ) (r : Routine) → slice_get (monitors signalled_wait) m ≡ Some k → slice_get k.entries j ≡ Some r → AllOfProgram signalled_wait (routine_calls r)
  entries_call zero k j r at_m at_r = by_entry j r (ap (λ (x : Monitor). slice_get x.entries j) (one_some refl at_m) ∙ at_r) where
    by_entry : (j : ℕ) (r : Routine) → slice_get m.entries j ≡ Some r → AllOfProgram signalled_wait (routine_calls r)
    by_entry zero r at = subst (λ (x : Routine). AllOfProgram signalled_wait (routine_calls x)) (one_some refl at) tt
    by_entry (suc zero) r at = subst (λ (x : Routine). AllOfProgram signalled_wait (routine_calls x)) (one_some refl at) tt
    by_entry (suc (suc i)) r at = absurd cc
  entries_call (suc m) k j r at_m at_r = absurd cc

pub meeting_is_well_formed : MeetingIsWellFormed
meeting_is_well_formed = (signalled_wait_fits, names_apart)

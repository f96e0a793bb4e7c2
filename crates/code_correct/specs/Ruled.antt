-- A program that keeps to the rules, as the law of one process takes them.
use Rattle.std.specs.Prelude.{◌≡◌, ℕ, Some, slice_get}
use Rattle.syntax_tree.specs.Plain.{Name}
use Rattle.source_semantics.specs.Names.{processes}
use Rattle.code_spec.specs.Compiled.{IsCodeOf}
use Rattle.static_semantics.specs.WellFormed.{IsWellFormed}
use Rattle.code_spec.specs.Boundary.{Compiled, IsFaithful}
use Rattle.code_correct.specs.Process.{FreeHolds, RestHolds, StandsFor}
use Rattle.codegen_law.specs.Ruled.{NamesApart, runs_of}

-- The law: the code of each process of a well-formed program is faithful.
abbrev pub ProgramIsFaithful : Type 0
ProgramIsFaithful = (c : Compiled) → IsWellFormed c.program → NamesApart c.program → IsCodeOf c.program c.image
    → slice_get (processes c.program) c.number ≡ Some c.text → slice_get c.image.processes c.number ≡ Some c.process
    → (level : Name → ℕ) × IsFaithful c (λ o v. StandsFor c (record { level = level; runs = runs_of c.program c.text }) o v) (λ m shared vars. FreeHolds c m shared vars) (λ owned vars. RestHolds c owned vars)

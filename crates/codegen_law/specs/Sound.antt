-- Well-formed programs are sound.
use Rattle.syntax_tree.specs.Plain.{Program}
use Rattle.static_semantics.specs.WellFormed.{IsWellFormed}
use Rattle.codegen_law.specs.Ruled.{NamesApart}
use Rattle.codegen_law.specs.Numbered.{AreNumbered}
use Rattle.code_measures.specs.Declared.{IsSound}

-- The law: each routine and entry stands once in the list by number, behind all that it calls.
abbrev pub RoutinesHaveNumbers : Type 0
RoutinesHaveNumbers = (g : Program) → IsWellFormed g → NamesApart g → AreNumbered g

-- The law: its texts are sound, and each calls routines with lower numbers alone.
abbrev pub WellFormedProgramsAreSound : Type 0
WellFormedProgramsAreSound = (g : Program) → IsWellFormed g → NamesApart g → IsSound g

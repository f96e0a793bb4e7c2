-- What the static rules give to the laws of code, of validity and of runs.
use Rattle.std.specs.Prelude.{◌≡◌, ◌≤◌, ℕ, Some, slice_get}
use Rattle.syntax_tree.specs.Placed.{Prog, plain}
use Rattle.syntax_tree.specs.Plain as plain_of
use Rattle.syntax_tree.specs.declared.place.Place.{Place}
use Rattle.machine_semantics.specs.Image as image
use Rattle.valid_image.specs.Sizes.{words_over_all}
use Rattle.static_semantics.specs.Static.{IsChecked}
use Rattle.static_semantics.specs.WellFormed.{IsWellFormed}
use Rattle.codegen_law.specs.Ruled.{NamesApart}
use Rattle.code_spec.specs.Compiled.{IsCodeOf}
use Rattle.codegen_law.specs.Numbered.{AreNumbered}
use Rattle.code_measures.specs.Declared.{IsSound, Declares}
use Rattle.code_measures.specs.Quiet.{AreQuiet}
use Rattle.code_measures.specs.Whole.{HasRanks, IsBound, IsMade}
use Rattle.built_image_law.specs.Quiet.{reaches_no_wait}

-- all that the laws ask of a program
pub record IsReady (g : plain_of.Program) : Type 0 where
  pub formed : IsWellFormed g
  pub apart : NamesApart g
  pub numbered : AreNumbered g
  pub sound : IsSound g
  pub quiet : AreQuiet g (reaches_no_wait g)

-- The law: the plain tree of a checked program has it.
abbrev pub CheckedProgramsAreReady : Type 0
CheckedProgramsAreReady = (g : Prog Place) → IsChecked g → IsReady (plain g)

-- what is asked of an image beside a checked program: its code, what it declares, ranks and
-- ceilings, bounds, and that its words are not too many
pub record IsImageMade (g : plain_of.Program) (m : image.Image) : Type 0 where
  pub code : IsCodeOf g m
  pub declares : Declares g m
  pub few_words : words_over_all m ≤ 1048576
  pub ranks : HasRanks m
  pub bounds : (k : ℕ) (p : image.Process) → slice_get m.processes k ≡ Some p → IsBound m p

-- The law: such an image of a checked program meets the premise of the laws of validity.
abbrev pub CheckedImagesAreMade : Type 0
CheckedImagesAreMade = (g : Prog Place) (m : image.Image) → IsChecked g → IsImageMade (plain g) m → IsMade (plain g) m

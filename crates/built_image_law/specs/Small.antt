-- A checked program that keeps the rules of size is small enough for the generator.
use Rattle.std.specs.Prelude.{ℕ}
use Rattle.syntax_tree.specs.Placed.{Prog, plain}
use Rattle.syntax_tree.specs.declared.place.Place.{Place}
use Rattle.machine_semantics.specs.Image as image
use Rattle.static_semantics.specs.Static.{IsChecked}
use Rattle.code_spec.specs.Compiled.{IsCodeOf}
use Rattle.code_cost.specs.Rules.{SizeFails}
use Rattle.built_image_law.specs.Runs.{IsSmallEnough, HoldsMade}

-- no rule of size fails anywhere in the program
abbrev pub KeepsSizes : Prog Place → Type 0
KeepsSizes g = (number : ℕ) (place : Place) → SizeFails g number place → ⊥

-- The law: it is small enough.
abbrev pub ProgramsThatKeepSizesAreSmall : Type 0
ProgramsThatKeepSizesAreSmall = (g : Prog Place) → IsChecked g → KeepsSizes g → IsSmallEnough g

-- The law: an image that holds what is made of it is its code.
abbrev pub GeneratedCodeIsCode : Type 0
GeneratedCodeIsCode = (g : Prog Place) (m : image.Image) → IsChecked g → KeepsSizes g
    → HoldsMade g m → IsCodeOf (plain g) m

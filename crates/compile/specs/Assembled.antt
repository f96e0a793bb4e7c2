-- The law: what is made of a checked program that keeps to the rules of size can be put into an
-- image.
use Rattle.std.specs.Prelude.{ℕ}
use Rattle.syntax_tree.specs.Placed.{Prog, plain}
use Rattle.syntax_tree.specs.Plain as plain_of
use Rattle.syntax_tree.specs.declared.place.Place.{Place}
use Rattle.static_semantics.specs.Static.{IsChecked}
use Rattle.code_cost.specs.Rules.{SizeFails}
use Rattle.codegen_spec.specs.Parts.{program_made}
use Rattle.compile_image.specs.Fields.{FitsFields, HasParts}

-- neither rule of size fails at any place
abbrev pub KeepsToSizes : Prog Place → Type 0
KeepsToSizes g = (number : ℕ) (place : Place) → ¬ SizeFails g number place

-- a part for each routine, and for the body and the handler of each process
abbrev pub MadeHasParts : Type 0
MadeHasParts = (g : plain_of.Program) → HasParts g (program_made g)

-- each number fits its field
abbrev pub CheckedProgramsFitFields : Type 0
CheckedProgramsFitFields = (g : Prog Place) → IsChecked g → KeepsToSizes g → FitsFields (plain g) (program_made (plain g))

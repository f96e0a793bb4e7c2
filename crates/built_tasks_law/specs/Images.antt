-- What is made of a checked program is its image.
use Rattle.syntax_tree.specs.Placed.{Prog, plain}
use Rattle.syntax_tree.specs.declared.place.Place.{Place}
use Rattle.machine_semantics.specs.Image.{Image}
use Rattle.code_spec.specs.Compiled.{IsCodeOf}
use Rattle.static_semantics.specs.Static.{IsChecked}
use Rattle.code_measures.specs.Whole.{HasRanks}
use Rattle.code_lifting.specs.Image.{IsImageOf, whole}
use Rattle.built_image_law.specs.Ready.{IsImageMade}

-- The law: the code of a checked program, with the ranks and ceilings that validity asks, is an
-- image of the program.
abbrev pub CheckedCodeIsAnImage : Type 0
CheckedCodeIsAnImage = (g : Prog Place) (m : Image) → IsChecked g → IsCodeOf (plain g) m → HasRanks m → IsImageOf (whole m (plain g))

-- The law: so is what is made of it.
abbrev pub CheckedImagesAreImages : Type 0
CheckedImagesAreImages = (g : Prog Place) (m : Image) → IsChecked g → IsImageMade (plain g) m → IsImageOf (whole m (plain g))

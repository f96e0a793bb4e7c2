-- The image of a checked program is valid.
use Rattle.std.specs.Prelude.{◌≡◌, None}
use Rattle.syntax_tree.specs.Placed.{Prog, plain}
use Rattle.syntax_tree.specs.declared.place.Place.{Place}
use Rattle.machine_semantics.specs.Image.{Image}
use Rattle.valid_image.specs.Valid.{Operands, fault_of_part, IsValid}
use Rattle.code_spec.specs.Compiled.{IsCodeOf}
use Rattle.static_semantics.specs.Static.{IsChecked}
use Rattle.built_valid_law.specs.Areas.{DevicesGoOneWay}
use Rattle.built_image_law.specs.Ready.{IsImageMade}

-- The law: devices of one name go one way.
abbrev pub CheckedDevicesGoOneWay : Type 0
CheckedDevicesGoOneWay = (g : Prog Place) → IsChecked g → DevicesGoOneWay (plain g)

-- The law: the code has no operand out of range.
abbrev pub CheckedOperandsAreInRange : Type 0
CheckedOperandsAreInRange = (g : Prog Place) (m : Image) → IsChecked g → IsCodeOf (plain g) m → fault_of_part m Operands ≡ None

-- The law: an image that is made of the program is valid.
abbrev pub CheckedImagesAreValid : Type 0
CheckedImagesAreValid = (g : Prog Place) (m : Image) → IsChecked g → IsImageMade (plain g) m → IsValid m

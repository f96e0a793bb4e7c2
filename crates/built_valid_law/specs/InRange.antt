-- The operands of the image of a program are in range.
use Rattle.std.specs.Prelude.{◌≡◌, None}
use Rattle.syntax_tree.specs.Plain.{Program}
use Rattle.machine_semantics.specs.Image.{Image}
use Rattle.valid_image.specs.Valid.{Operands, fault_of_part}
use Rattle.code_spec.specs.Compiled.{IsCodeOf}
use Rattle.static_semantics.specs.WellFormed.{IsWellFormed}
use Rattle.codegen_law.specs.Ruled.{NamesApart}
use Rattle.built_valid_law.specs.Areas.{DevicesGoOneWay}

-- The law: so it is where the program is well formed, its names stand apart, and devices of one
-- name go one way.
abbrev pub OperandsAreInRange : Type 0
OperandsAreInRange = (g : Program) (m : Image) → IsWellFormed g → NamesApart g → DevicesGoOneWay g → IsCodeOf g m → fault_of_part m Operands ≡ None

-- The laws: each part of validity has no fault exactly where its rule holds, and has one exactly
-- where it does not.
use Rattle.std.specs.Prelude.{◌≡◌, ◌↔◌, None, Some}
use Rattle.machine_semantics.specs.Image.{Image}
use Rattle.valid_image.specs.Fault.{Fault}
use Rattle.valid_image.specs.Valid.{Part, Shape, Costs, Sizes, Ranks, Bounds, Operands, Handlers, fault_of_part, IsValid}
use Rattle.valid_image_law.specs.PlainRules.{CodeIsOfTrees, CostsCover, SizesSuffice, RanksAreDefined, BoundsHold, OperandsFit, HandlersStand, KeepsAllRules}

-- the rule of a part
abbrev pub Rule : Image → Part → Type 0
Rule image Shape = CodeIsOfTrees image
Rule image Costs = CostsCover image
Rule image Sizes = SizesSuffice image
Rule image Ranks = RanksAreDefined image
Rule image Bounds = BoundsHold image
Rule image Operands = OperandsFit image
Rule image Handlers = HandlersStand image

-- the part of the image has a fault
abbrev pub Fails : Image → Part → Type 0
Fails image part = (f : Fault) × (fault_of_part image part ≡ Some f)

abbrev pub PartsPassByTheirRules : Type 0
PartsPassByTheirRules = (image : Image) (part : Part) → (fault_of_part image part ≡ None) ↔ Rule image part

abbrev pub PartsFailByTheirRules : Type 0
PartsFailByTheirRules = (image : Image) (part : Part) → Fails image part ↔ (Rule image part → ⊥)

-- an image is valid exactly where it keeps all seven
abbrev pub ValidKeepsAllRules : Type 0
ValidKeepsAllRules = (image : Image) → IsValid image ↔ KeepsAllRules image

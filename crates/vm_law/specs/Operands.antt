-- What the operands of instructions number.
use Rattle.std.specs.Prelude.{◌≡◌, ℕ, length, Some, slice_get}
use Rattle.machine_isa.specs.declared.instr.Instr.{Instr}
use Rattle.machine_isa.specs.declared.instr.Instr.TheVariants as i
use Rattle.machine_semantics.specs.Image.{Image}
use Rattle.machine_semantics.specs.Part.{IsBelow}
use Rattle.valid_image.specs.Valid.{HasLimits, IsValid}

-- the monitor, the condition or the device that an instruction numbers is there; no limit of a wait
-- is above 1,000,000,000, and no exception number above 999
abbrev pub IsThere : Image → Instr → Type 0
IsThere image (i.Enter m) = IsBelow m (length image.monitors)
IsThere image (i.Leave m) = IsBelow m (length image.monitors)
IsThere image (i.Wait c limit number) = IsBelow c (length image.conditions) × IsBelow limit 1000000001 × IsBelow number 1000
IsThere image (i.Reenter m) = IsBelow m (length image.monitors)
IsThere image (i.Signal c) = IsBelow c (length image.conditions)
IsThere image (i.Broadcast c) = IsBelow c (length image.conditions)
IsThere image (i.Empty c) = IsBelow c (length image.conditions)
IsThere image (i.In d) = IsBelow d (length image.devices)
IsThere image (i.Out d) = IsBelow d (length image.devices)
IsThere image (i.Raise number) = IsBelow number 1000
IsThere image _ = Unit {0}

-- so it is with each instruction of the code
abbrev pub AreThere : Image → Type 0
AreThere image = (n : ℕ) (instr : Instr) → slice_get image.code n ≡ Some instr → IsThere image instr

-- The law: so it is in a valid image.
abbrev pub ValidOperandsAreThere : Type 0
ValidOperandsAreThere = (image : Image) → HasLimits image → IsValid image → AreThere image

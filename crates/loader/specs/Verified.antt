-- What the calls answer.
use Rattle.std.specs.Prelude.{◌≤◌, Option, Some, None, length}
use Rattle.machine_semantics.specs.Image.{Image}
use Rattle.image.specs.declared.raw.RawImage.{RawImage}
use Rattle.image.specs.Raw.{image_of}
use Rattle.valid_image.specs.Fault.{or_else}
use Rattle.valid_image.specs.Valid.{Shown, Operands, Shape, Handlers, Costs, Sizes, Ranks, HasLimits, shown}
use Rattle.loader.specs.declared.parts_in_order.ValidityFault.{ValidityFault}

-- numbers in the ranges of their fields, as far as the tests ask
pub record HasRanges (raw : RawImage) : Type 0 where
  pub limits : HasLimits (image_of raw)
  pub monitors : length raw.monitors ≤ 64

-- a fault as the code holds it
abbrev pub shown_by : Option ValidityFault → Option Shown
shown_by None = None
shown_by (Some n) = Some (record { number = n.number; a = n.a; b = n.b })

-- the first fault of trees, handlers, costs and sizes; and that of costs and sizes
abbrev pub code_fault_of : Image → Option Shown
code_fault_of image = or_else (shown image Shape) (or_else (shown image Handlers) (or_else (shown image Costs) (shown image Sizes)))

abbrev pub declared_fault_of : Image → Option Shown
declared_fault_of image = or_else (shown image Costs) (shown image Sizes)

-- the fault of an image before its bounds: that of the first other part that fails, in the order of
-- the tests
abbrev pub fault_before_bounds : Image → Option Shown
fault_before_bounds image =
    or_else (shown image Operands)
    (or_else (shown image Shape)
    (or_else (shown image Handlers)
    (or_else (shown image Costs)
    (or_else (shown image Sizes) (shown image Ranks)))))

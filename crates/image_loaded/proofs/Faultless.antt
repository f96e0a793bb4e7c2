-- Numbers without a fault, and those with one.
use Rattle.std.proofs.Common.{◌≡◌, None, Option, ap, sym, ◌∙◌}
use Rattle.machine_semantics.specs.Image.{Image}
use Rattle.valid_image.specs.Fault.{or_else}
use Rattle.valid_image.specs.Valid.{Part, Operands, Shape, Handlers, Costs, Sizes, Ranks, IsValid, shown, shown_of}
use Rattle.faulty_part.specs.Law.{shown_if}
use Rattle.faulty_part.specs.Parts.{part_fault}
use Rattle.faulty_part.proofs.Whole.{whole}
use Rattle.loader.proofs.Order.{is_valid}
use Rattle.loader.specs.Verified.{fault_before_bounds}

-- where no part has a fault, the image is valid
pub faultless : (image : Image) → part_fault image ≡ None → IsValid image
faultless image none = is_valid image (ap shown_if (sym none) ∙ whole image)

none_first : {A : Type 0} (x y : Option A) → x ≡ None → y ≡ None → or_else x y ≡ None
none_first x y is then = ap (λ a. or_else a y) is ∙ then

-- a valid image has no fault before its bounds
pub none_before : (image : Image) → IsValid image → fault_before_bounds image ≡ None
none_before image valid =
    none_first _ _ (of Operands) (none_first _ _ (of Shape) (none_first _ _ (of Handlers) (none_first _ _ (of Costs) (none_first _ _ (of Sizes) (of Ranks)))))
  where
    of : (part : Part) → shown image part ≡ None
    of part = ap (shown_of part) (valid part)

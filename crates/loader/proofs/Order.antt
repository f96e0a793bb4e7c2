-- An image without a fault is valid, and the parts before bounds come first.
use Rattle.std.proofs.Common.{◌≡◌, Option, Some, None, refl, sym}
use Rattle.machine_semantics.specs.Image.{Image}
use Rattle.valid_image.specs.Fault.{or_else}
use Rattle.valid_image.specs.Times.{rank_fault}
use Rattle.valid_image.specs.Valid.{Shown, Operands, Shape, Handlers, Costs, Sizes, Ranks, Bounds, fault_of, fault_of_part, shown, IsValid}
use Rattle.valid_image_law.proofs.Whole.{valid_is_without_fault, not_shown}
use Rattle.loader.specs.Verified.{fault_before_bounds}
use Rattle.valid_image_law.proofs.Firsts.{neither}

pub is_valid : (image : Image) → None ≡ fault_of image → IsValid image
is_valid image none = (valid_is_without_fault image).1 (sym none)

-- ---- the order of the tests

-- each part before bounds has no fault
pub record HasNoFaultBefore (image : Image) : Type 0 where
  pub operands : fault_of_part image Operands ≡ None
  pub shape : fault_of_part image Shape ≡ None
  pub handlers : fault_of_part image Handlers ≡ None
  pub costs : fault_of_part image Costs ≡ None
  pub sizes : fault_of_part image Sizes ≡ None
  pub ranks : fault_of_part image Ranks ≡ None

pub none_before : (image : Image) → fault_before_bounds image ≡ None → HasNoFaultBefore image
none_before image none =
    let a = neither (shown image Operands) _ none in
    let b = neither (shown image Shape) _ a.1 in
    let c = neither (shown image Handlers) _ b.1 in
    let d = neither (shown image Costs) _ c.1 in
    let e = neither (shown image Sizes) (shown image Ranks) d.1 in
    record {
      operands = not_shown Operands (fault_of_part image Operands) a.0;
      shape = not_shown Shape (fault_of_part image Shape) b.0;
      handlers = not_shown Handlers (fault_of_part image Handlers) c.0;
      costs = not_shown Costs (fault_of_part image Costs) d.0;
      sizes = not_shown Sizes (fault_of_part image Sizes) e.0;
      ranks = not_shown Ranks (fault_of_part image Ranks) e.1;
    }

pub ranks_none : (image : Image) → fault_before_bounds image ≡ None → rank_fault image ≡ None
ranks_none image none = (none_before image none).ranks

-- an image with no fault before its bounds and none of bounds is valid
pub is_valid_with_bounds : (image : Image) → fault_before_bounds image ≡ None → fault_of_part image Bounds ≡ None → IsValid image
is_valid_with_bounds image before bounds = by (none_before image before) where
  by : HasNoFaultBefore image → IsValid image
  by h Shape = h.shape
  by h Costs = h.costs
  by h Sizes = h.sizes
  by h Ranks = h.ranks
  by h Bounds = bounds
  by h Operands = h.operands
  by h Handlers = h.handlers

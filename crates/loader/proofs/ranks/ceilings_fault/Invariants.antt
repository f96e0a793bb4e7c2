use Rattle.std.proofs.Common.{◌≡◌}
use Rattle.image.specs.Raw.{image_of, monitor_of}
use Rattle.valid_image.specs.Sizes.{other}
use Rattle.valid_image.specs.Times.{ceiling_of, ceilings_fault}
use Rattle.loader_code.proofs.Seeking.{from_index}
use Rattle.loader.proofs.ranks.ceilings_fault.Given as goal

abbrev pub invariant-loop-number : goal.invariant-loop-number
invariant-loop-number l = from_index monitor_of (λ m x. other x.ceiling (ceiling_of (image_of l.image) m)) l.image.monitors l.number ≡ ceilings_fault (image_of l.image)

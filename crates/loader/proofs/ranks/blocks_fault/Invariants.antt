use Rattle.std.proofs.Common.{◌≡◌}
use Rattle.image.specs.Raw.{image_of, process_of}
use Rattle.valid_image.specs.Sizes.{below}
use Rattle.valid_image.specs.Times.{needed_block, blocks_fault}
use Rattle.loader_code.proofs.Seeking.{from_index}
use Rattle.loader.proofs.ranks.blocks_fault.Given as goal

abbrev pub invariant-loop-number : goal.invariant-loop-number
invariant-loop-number l = from_index process_of (λ k p. below p.block (needed_block (image_of l.image) p.rank)) l.image.processes l.number ≡ blocks_fault (image_of l.image)

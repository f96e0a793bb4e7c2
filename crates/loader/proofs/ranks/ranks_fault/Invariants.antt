use Rattle.std.proofs.Common.{◌≡◌}
use Rattle.image.specs.Raw.{image_of, process_of}
use Rattle.valid_image.specs.Sizes.{other}
use Rattle.valid_image.specs.Times.{rank_of, ranks_fault}
use Rattle.loader_code.proofs.Seeking.{from_index}
use Rattle.loader.proofs.ranks.ranks_fault.Given as goal

abbrev pub invariant-loop-number : goal.invariant-loop-number
invariant-loop-number l = from_index process_of (λ k p. other p.rank (rank_of (image_of l.image) k)) l.image.processes l.number ≡ ranks_fault (image_of l.image)

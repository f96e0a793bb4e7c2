use Rattle.std.proofs.Common.{◌+◌, None, drop, length, map}
use Rattle.image.specs.Raw.{image_of, process_of}
use Rattle.valid_image.specs.Pieces.{closest, piece_of_process, pieces}
use Rattle.validity_parts.proofs.Owners.{IsSearch}
use Rattle.validity_parts.proofs.operands.closest_piece.Given as goal

abbrev pub invariant-loop-number : goal.invariant-loop-number
invariant-loop-number l = IsSearch (length l.raw.routines) (map piece_of_process (map process_of (drop l.number l.raw.processes))) (length l.raw.routines + l.number) l.address l.best (closest (pieces (image_of l.raw)) 0 l.address None)

use Rattle.std.proofs.Common.{◌+◌, None, drop, length, map}
use Rattle.image.specs.Raw.{routine_of}
use Rattle.valid_image.specs.Pieces.{closest, piece_of_routine}
use Rattle.validity_parts.proofs.Owners.{IsSearch}
use Rattle.validity_parts.proofs.operands.closest_routine.Given as goal

abbrev pub invariant-loop-number : goal.invariant-loop-number
invariant-loop-number l = IsSearch (length l.raw.routines) (map piece_of_routine (map routine_of (drop l.number l.raw.routines))) (0 + l.number) l.address l.best (closest (map piece_of_routine (map routine_of l.raw.routines)) 0 l.address None)

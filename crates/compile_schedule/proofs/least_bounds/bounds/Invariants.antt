use Rattle.image.specs.Raw.{image_of}
use Rattle.compile_schedule.proofs.Growing.{LeastSoFar}
use Rattle.compile_schedule.proofs.least_bounds.bounds.Given as goal

abbrev pub invariant-loop-number : goal.invariant-loop-number
invariant-loop-number l = LeastSoFar (image_of l.image) l.number l.all

use Rattle.std.proofs.Common.{◌≡◌, ◌-◌, length, map}
use Rattle.std.specs.Prelude.{slice_get}
use Rattle.image.specs.Raw.{image_of, routine_of}
use Rattle.valid_image.specs.Fault.{first_of, of_some, first_in}
use Rattle.valid_image.specs.Sizes.{routine_cost_fault}
use Rattle.loader.proofs.costs.routines_fault.Given as goal

abbrev pub invariant-loop-r : goal.invariant-loop-r
invariant-loop-r l =
    first_of (λ k. of_some (routine_cost_fault (image_of l.raw) k) (slice_get (map routine_of l.raw.routines) k)) (length l.raw.routines - l.r) l.r ≡ first_in (routine_cost_fault (image_of l.raw)) (map routine_of l.raw.routines)

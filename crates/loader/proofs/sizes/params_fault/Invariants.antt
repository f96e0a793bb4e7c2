use Rattle.std.proofs.Common.{◌≡◌, ◌-◌, length, map}
use Rattle.std.specs.Prelude.{slice_get}
use Rattle.image.specs.Raw.{routine_of}
use Rattle.machine_semantics.specs.Image.{Routine}
use Rattle.valid_image.specs.Fault.{first_of, of_some, first_in}
use Rattle.valid_image.specs.Sizes.{below}
use Rattle.loader.proofs.sizes.params_fault.Given as goal

abbrev pub invariant-loop-routine : goal.invariant-loop-routine
invariant-loop-routine l =
    first_of (λ k. of_some (λ (x : Routine). below x.locals x.params) (slice_get (map routine_of l.routines) k)) (length l.routines - l.routine-index) l.routine-index ≡ first_in (λ k (x : Routine). below x.locals x.params) (map routine_of l.routines)

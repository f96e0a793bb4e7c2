use Rattle.std.proofs.Common.{◌≡◌, ◌-◌, length, map}
use Rattle.std.specs.Prelude.{slice_get}
use Rattle.image.specs.Raw.{image_of, process_of}
use Rattle.valid_image.specs.Fault.{first_of, of_some, first_in}
use Rattle.valid_image.specs.Sizes.{below, needed_stack}
use Rattle.loader.proofs.sizes.stack_fault.Given as goal

abbrev pub invariant-loop-k : goal.invariant-loop-k
invariant-loop-k l =
    first_of (λ k. of_some (λ p. below p.stack (needed_stack (image_of l.raw) p)) (slice_get (map process_of l.raw.processes) k)) (length l.raw.processes - l.k) l.k ≡ first_in (λ k p. below p.stack (needed_stack (image_of l.raw) p)) (map process_of l.raw.processes)

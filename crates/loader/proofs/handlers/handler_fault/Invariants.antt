use Rattle.std.proofs.Common.{◌≡◌, ◌-◌, length, map}
use Rattle.image.specs.Raw.{image_of, process_of}
use Rattle.machine_semantics.specs.Image.{Process}
use Rattle.valid_image.specs.Fault.{unless, first_of, first_in}
use Rattle.valid_image.specs.Shape.{is_handler}
use Rattle.loader.proofs.Waiting.{handler_at}
use Rattle.loader.proofs.handlers.handler_fault.Given as goal

abbrev pub invariant-loop-k : goal.invariant-loop-k
invariant-loop-k l = first_of (handler_at l.raw) (length l.raw.processes - l.k) l.k ≡ first_in (λ k (p : Process). unless (is_handler (image_of l.raw) p p.handler_tree) k 0) (map process_of l.raw.processes)

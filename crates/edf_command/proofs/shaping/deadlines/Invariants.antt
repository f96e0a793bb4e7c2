use Rattle.std.proofs.Common.{◌≡◌, map, take}
use Rattle.image.specs.Raw.{process_of}
use Rattle.edf_command.specs.Steps.{due_of}
use Rattle.edf_command.proofs.shaping.deadlines.Given as goal

abbrev pub invariant-loop-process : goal.invariant-loop-process
invariant-loop-process l = l.all ≡ map (λ x. due_of (process_of x)) (take l.process-index l.processes)

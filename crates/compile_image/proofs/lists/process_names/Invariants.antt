use Rattle.std.proofs.Common.{◌≡◌, map, take}
use Rattle.code_names.specs.Parts.{seen_processes}
use Rattle.compile_image.proofs.lists.process_names.Given as goal

abbrev pub invariant-loop-process : goal.invariant-loop-process
invariant-loop-process l = l.names ≡ map (λ p. p.name) (seen_processes (take l.process-index l.processes))

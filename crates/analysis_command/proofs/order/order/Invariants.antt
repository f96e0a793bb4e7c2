use Rattle.std.proofs.Common.{◌≡◌, ◌-◌, map, take}
use Rattle.image.specs.Raw.{process_of}
use Rattle.image.specs.declared.raw.RawProcess.{RawProcess}
use Rattle.analysis_command.proofs.order.order.Given as goal

abbrev pub invariant-loop-process : goal.invariant-loop-process
invariant-loop-process l = l.all.items ≡ map (λ (p : RawProcess). (process_of p).rank - 1) (take l.process-index l.processes)

use Rattle.std.proofs.Common.{◌≡◌, ◌++◌, map, take}
use Rattle.loader_code.proofs.sweep.starts.Given as goal

abbrev pub invariant-loop-routine : goal.invariant-loop-routine
invariant-loop-routine l = l.all.items ≡ map (λ r. r.start) (take l.routine-index l.image.routines)

abbrev pub invariant-loop-process : goal.invariant-loop-process
invariant-loop-process l = l.all.items ≡ map (λ r. r.start) l.image.routines ++ map (λ p. p.start) (take l.process-index l.image.processes)

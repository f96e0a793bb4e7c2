use Rattle.std.proofs.Common.{◌≡◌, ◌++◌, map, drop}
use Rattle.replay.proofs.ranks.rank_numbers.Given as goal

abbrev pub invariant-loop-process : goal.invariant-loop-process
invariant-loop-process l = l.ranks.items ++ map (λ p. p.rank) (drop l.process-index l.processes) ≡ map (λ p. p.rank) l.processes

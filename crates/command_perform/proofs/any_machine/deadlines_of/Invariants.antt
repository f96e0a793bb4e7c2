use Rattle.std.proofs.Common.{◌≡◌, map, take}
use Rattle.command_perform.proofs.any_machine.deadlines_of.Given as goal

abbrev pub invariant-loop-number : goal.invariant-loop-number
invariant-loop-number l = l.deadlines.items ≡ map (λ p. p.deadline) (take l.number l.image.image.processes)

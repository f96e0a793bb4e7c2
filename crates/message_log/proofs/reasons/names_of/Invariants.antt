use Rattle.std.proofs.Common.{◌≡◌, take, map}
use Rattle.message_log.proofs.reasons.names_of.Given as goal

abbrev pub invariant-loop-process : goal.invariant-loop-process
invariant-loop-process l = map (λ name. name.now) l.all.items ≡ take l.process-index l.processes

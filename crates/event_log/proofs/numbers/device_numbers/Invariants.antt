use Rattle.event_log.specs.Line.{device_name}
use Rattle.event_log.specs.Finding.{AreNumbers}
use Rattle.event_log.proofs.numbers.device_numbers.Given as goal

abbrev pub invariant-loop-k : goal.invariant-loop-k
invariant-loop-k l = AreNumbers l.numbers.entries l.k (device_name l.names)

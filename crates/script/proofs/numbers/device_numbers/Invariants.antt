use Rattle.std.proofs.Common.{take, ◌&&◌, not}
use Rattle.std.specs.List.{position_from}
use Rattle.script.specs.Scripts.{same_name}
use Rattle.script.specs.Reading.{AreNumbers}
use Rattle.script.proofs.numbers.device_numbers.Given as goal

abbrev pub invariant-loop-k : goal.invariant-loop-k
invariant-loop-k l = AreNumbers l.numbers.entries (λ name. position_from (λ device. same_name name device.name && not device.out) 0 (take l.k l.devices))

use Rattle.std.proofs.Common.{take}
use Rattle.std.specs.List.{position_from}
use Rattle.script.specs.Scripts.{same_name}
use Rattle.script.specs.Reading.{AreNumbers}
use Rattle.script.proofs.numbers.event_numbers.Given as goal

abbrev pub invariant-loop-k : goal.invariant-loop-k
invariant-loop-k l = AreNumbers l.numbers.entries (λ name. position_from (λ e. same_name name e.name) 0 (take l.k l.events))

use Rattle.std.proofs.Common.{◌≡◌, ◌++◌, take}
use Rattle.std.specs.List.{flat_map}
use Rattle.image.specs.Bytes.{condition_bytes}
use Rattle.image.proofs.image.put_conditions.Given as goal

abbrev pub invariant-loop-condition : goal.invariant-loop-condition
invariant-loop-condition l = l.out.items ≡ l.initial.out.items ++ flat_map condition_bytes (take l.condition-index l.conditions)

use Rattle.std.proofs.Common.{◌≡◌, ◌+◌, drop, length}
use Rattle.std.specs.List.{flat_map}
use Rattle.image.specs.Bytes.{condition_bytes}
use Rattle.image_bytes.proofs.names.after_conditions.Given as goal

abbrev pub invariant-loop-condition : goal.invariant-loop-condition
invariant-loop-condition l = l.at + length (flat_map condition_bytes (drop l.condition-index l.conditions)) ≡ l.start + length (flat_map condition_bytes l.conditions)

use Rattle.std.proofs.Common.{◌≡◌, ◌++◌, take}
use Rattle.std.specs.List.{flat_map}
use Rattle.asm_format.specs.Text.{condition_line}
use Rattle.asm_format.proofs.image_text.put_conditions.Given as goal

abbrev pub invariant-loop-condition : goal.invariant-loop-condition
invariant-loop-condition l = l.text ≡ l.initial.text ++ flat_map condition_line (take l.condition-index l.conditions)

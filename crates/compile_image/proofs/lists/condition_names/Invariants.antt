use Rattle.std.proofs.Common.{◌≡◌, ◌++◌, drop}
use Rattle.code_names.specs.Parts.{seen_monitors}
use Rattle.built_image.specs.Named.{named_conditions}
use Rattle.compile_image.proofs.lists.condition_names.Given as goal

abbrev pub invariant-loop-number : goal.invariant-loop-number
invariant-loop-number l = l.conditions ++ named_conditions l.number (seen_monitors (drop l.number l.monitors)) ≡ named_conditions 0 (seen_monitors l.monitors)

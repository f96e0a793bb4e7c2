use Rattle.std.proofs.Common.{◌≡◌, ◌++◌, map, drop}
use Rattle.image.specs.Raw.{monitor_of}
use Rattle.asm_format.specs.Text.{monitors_text}
use Rattle.asm_format.proofs.image_text.put_monitors.Given as goal

abbrev pub invariant-loop-at : goal.invariant-loop-at
invariant-loop-at l = l.text ++ monitors_text (drop l.at l.names) (map monitor_of (drop l.at l.monitors)) ≡ l.initial.text ++ monitors_text l.names (map monitor_of l.monitors)

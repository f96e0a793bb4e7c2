use Rattle.std.proofs.Common.{◌≡◌, drop, length, map}
use Rattle.std.specs.Prelude.{fold, max}
use Rattle.vm_chart.proofs.lines.label_len.Given as goal

abbrev pub invariant-loop-name : goal.invariant-loop-name
invariant-loop-name l = fold max l.len (map length (drop l.name-index l.names)) ≡ fold max 4 (map length l.names)

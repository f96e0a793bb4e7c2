use Rattle.std.proofs.Common.{map, drop, ◌≡◌, ◌++◌}
use Rattle.syntax_tree.specs.Placed.{monitor}
use Rattle.table_format.specs.Parts.{seen, declarations_text, monitor_with}
use Rattle.table_format.proofs.text.add_monitors.Given as goal

abbrev pub invariant-loop-listed : goal.invariant-loop-listed
invariant-loop-listed l = l.text ++ declarations_text (map (λ name. monitor (monitor_with l.tail (seen l.stays) name)) (seen (drop l.listed-index l.names))) ≡ l.fn.text ++ declarations_text (map (λ name. monitor (monitor_with l.tail (seen l.stays) name)) (seen l.names))

use Rattle.std.proofs.Common.{◌≡◌, map, drop}
use Rattle.syntax_tree.specs.Placed.{placed, placed_decl}
use Rattle.syntax_tree.specs.Parts.{processes}
use Rattle.static_declarations.specs.Values.{value}
use Rattle.message_rules.specs.Findings.{process_findings}
use Rattle.message_rules.specs.Seen.{left}
use Rattle.message_rules.proofs.activations.look.Given as goal

abbrev pub invariant-loop-one : goal.invariant-loop-one
invariant-loop-one l = let of = process_findings (value (placed l.declarations)) in left of l.broken l.known (processes (map placed_decl (drop l.one-index l.one-items))) ≡ left of l.broken l.fn.known (processes (map placed_decl l.one-items))

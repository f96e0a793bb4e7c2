use Rattle.std.proofs.Common.{◌≡◌, List, drop}
use Rattle.syntax_tree.specs.Placed.{placed_exprs, placed_operands}
use Rattle.static_names.specs.Occurrences.{Occurrence, exprs_names, operands_names}
use Rattle.static_names.specs.Findings.{noted}
use Rattle.static_names.specs.Seen.{site}
use Rattle.static_names.proofs.expr.+expr.Given as goal

abbrev pub invariant-exprs-loop-e : goal.invariant-exprs-loop-e
invariant-exprs-loop-e l = (more : List Occurrence) → noted l.findings (exprs_names (site l.around l.loops) (placed_exprs (drop l.e-index l.list)) more) ≡ noted l.fn.findings (exprs_names (site l.around l.loops) (placed_exprs l.list) more)

abbrev pub invariant-operands-loop-operand : goal.invariant-operands-loop-operand
invariant-operands-loop-operand l = (more : List Occurrence) → noted l.findings (operands_names (site l.around l.loops) (placed_operands (drop l.operand-index l.list)) more) ≡ noted l.fn.findings (operands_names (site l.around l.loops) (placed_operands l.list) more)

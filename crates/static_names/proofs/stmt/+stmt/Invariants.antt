use Rattle.std.proofs.Common.{◌≡◌, List, drop}
use Rattle.syntax_tree.specs.Placed.{placed_stmts}
use Rattle.static_names.specs.Occurrences.{Occurrence, stmts_names}
use Rattle.static_names.specs.Findings.{noted}
use Rattle.static_names.specs.Seen.{site}
use Rattle.static_names.proofs.stmt.+stmt.Given as goal

abbrev pub invariant-stmts-loop-s : goal.invariant-stmts-loop-s
invariant-stmts-loop-s l = record {
  same_loops : l.loops.items ≡ l.fn.loops.items;
  left : (more : List Occurrence) → noted l.findings (stmts_names (site l.around l.fn.loops.items) (placed_stmts (drop l.s-index l.list)) more) ≡ noted l.fn.findings (stmts_names (site l.around l.fn.loops.items) (placed_stmts l.list) more);
}

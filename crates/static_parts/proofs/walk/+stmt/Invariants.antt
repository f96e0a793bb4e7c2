use Rattle.std.proofs.Common.{◌≡◌, List, drop}
use Rattle.syntax_tree.specs.Placed.{placed_stmts}
use Rattle.static_declarations.specs.Parts.{Part, stmts_parts}
use Rattle.static_parts.proofs.walk.+stmt.Given as goal

abbrev pub invariant-stmts-loop-s : goal.invariant-stmts-loop-s
invariant-stmts-loop-s g l = (more : List Part) → g.V.PartVisitor.found l.fn.visitor (stmts_parts l.here (placed_stmts l.list) more) ≡ g.V.PartVisitor.found l.visitor (stmts_parts l.here (placed_stmts (drop l.s-index l.list)) more)

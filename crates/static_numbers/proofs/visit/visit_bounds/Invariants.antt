use Rattle.std.proofs.Common.{map, drop}
use Rattle.syntax_tree.specs.Placed.{placed_decl}
use Rattle.static_numbers.specs.Types.{decls_bounds}
use Rattle.static_numbers.proofs.Walks.{Left}
use Rattle.static_numbers.proofs.visit.visit_bounds.Given as goal

abbrev pub invariant-loop-one : goal.invariant-loop-one
invariant-loop-one g l = Left g.V.BoundsVisitor.found (λ xs. decls_bounds (map placed_decl xs)) l.fn.visitor (decls_bounds (map placed_decl l.list)) l.visitor (drop l.one-index l.list)

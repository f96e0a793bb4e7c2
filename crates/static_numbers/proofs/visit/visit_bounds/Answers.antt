use Rattle.std.proofs.Common.{map, refl, arith}
use Rattle.syntax_tree.specs.Placed.{placed_decl}
use Rattle.static_numbers.specs.Types.{decl_bounds, decls_bounds}
use Rattle.static_numbers.proofs.Walks.{visit_step, visit_finish}
use Rattle.static_numbers.proofs.visit.visit_bounds.Goals as goal

pub loop-one-preserved : goal.loop-one-preserved
loop-one-preserved g c =
    visit_step g.V.BoundsVisitor.found (λ xs. decls_bounds (map placed_decl xs)) c.args.visitor.now (decls_bounds (map placed_decl c.args.list.now)) (λ x. decl_bounds (placed_decl x)) (λ x xs more. refl)
    c.args.list.now c.loop-one.one-index c.one-item.result c.loop-one.visitor c.decl.new.visitor (omega arith) c.one-item.is c.decl.ensures c.loop-one.invariant

pub returns : goal.returns
returns g c =
    visit_finish g.V.BoundsVisitor.found (λ xs. decls_bounds (map placed_decl xs)) c.args.visitor.now (decls_bounds (map placed_decl c.args.list.now)) (λ more. refl)
    c.args.list.now c.loop-one.one-index c.loop-one.visitor (omega arith) c.loop-one.invariant

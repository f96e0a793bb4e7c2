use Rattle.std.proofs.Common.{map, refl, arith}
use Rattle.syntax_tree.specs.Placed.{placed_member}
use Rattle.static_numbers.specs.Types.{member_bounds, members_bounds}
use Rattle.static_numbers.proofs.Walks.{visit_step, visit_finish}
use Rattle.static_numbers.proofs.visit.members.Goals as goal

pub loop-one-preserved : goal.loop-one-preserved
loop-one-preserved g c =
    visit_step g.V.BoundsVisitor.found (λ xs. members_bounds (map placed_member xs)) c.args.visitor.now (members_bounds (map placed_member c.args.list.now)) (λ x. member_bounds (placed_member x)) (λ x xs more. refl)
    c.args.list.now c.loop-one.one-index c.one-item.result c.loop-one.visitor c.member.new.visitor (omega arith) c.one-item.is c.member.ensures c.loop-one.invariant

pub returns : goal.returns
returns g c =
    visit_finish g.V.BoundsVisitor.found (λ xs. members_bounds (map placed_member xs)) c.args.visitor.now (members_bounds (map placed_member c.args.list.now)) (λ more. refl)
    c.args.list.now c.loop-one.one-index c.loop-one.visitor (omega arith) c.loop-one.invariant

use Rattle.std.proofs.Common.{map, refl, arith}
use Rattle.syntax_tree.specs.Placed.{placed_member}
use Rattle.static_names.specs.Occurrences.{member_name}
use Rattle.static_names.specs.Seen.{meaning, outer_site}
use Rattle.static_names.proofs.Scoping.{loop-step, loop-end}
use Rattle.static_names.proofs.declare.members.Goals as goal

pub loop-one-preserved : goal.loop-one-preserved
loop-one-preserved c =
    loop-step (outer_site c.args.outer.now).means c.args.findings.now (meaning c.args.scope.now.entries) (map member_name (map placed_member c.args.list.now)) (λ xs. map member_name (map placed_member xs)) (λ x. member_name (placed_member x)) (λ x xs. refl)
    c.args.list.now c.loop-one.one-index c.one-item.result c.loop-one.findings c.member.new.findings (meaning c.loop-one.scope.entries) (meaning c.member.new.scope.entries) (omega arith) c.one-item.is c.loop-one.invariant c.in-Ok.ensures

pub returns : goal.returns
returns c =
    loop-end (outer_site c.args.outer.now).means c.args.findings.now (meaning c.args.scope.now.entries) (map member_name (map placed_member c.args.list.now)) (λ xs. map member_name (map placed_member xs)) (λ x. member_name (placed_member x)) refl
    c.args.list.now c.loop-one.one-index c.loop-one.findings (meaning c.loop-one.scope.entries) (omega arith) c.loop-one.invariant

use Rattle.std.proofs.Common.{[], map, refl, arith}
use Rattle.syntax_tree.specs.Placed.{placed_member}
use Rattle.static_names.specs.Occurrences.{members_names, member_inner}
use Rattle.static_names.specs.Seen.{site}
use Rattle.static_names.proofs.Walks.{step, finish}
use Rattle.static_names.proofs.part.members.Goals as goal

pub loop-one-preserved : goal.loop-one-preserved
loop-one-preserved c = let here = site c.args.around.now [] in
    step (λ xs. members_names here (map placed_member xs)) c.args.findings.now (members_names here (map placed_member c.args.list.now)) (λ x. member_inner here (placed_member x)) (λ x xs more. refl)
    c.args.list.now c.loop-one.one-index c.one-item.result c.loop-one.findings c.member.new.findings (omega arith) c.one-item.is c.in-Ok.ensures c.loop-one.invariant

pub returns : goal.returns
returns c = let here = site c.args.around.now [] in
    finish (λ xs. members_names here (map placed_member xs)) c.args.findings.now (members_names here (map placed_member c.args.list.now)) (λ more. refl)
    c.args.list.now c.loop-one.one-index c.loop-one.findings (omega arith) c.loop-one.invariant

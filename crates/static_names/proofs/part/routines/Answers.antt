use Rattle.std.proofs.Common.{map, refl, arith}
use Rattle.syntax_tree.specs.Placed.{placed_routine}
use Rattle.static_names.specs.Occurrences.{routines_names, routine_names}
use Rattle.static_names.specs.Seen.{outer_site}
use Rattle.static_names.proofs.Walks.{step, finish}
use Rattle.static_names.proofs.part.routines.Goals as goal

pub loop-one-preserved : goal.loop-one-preserved
loop-one-preserved c = let here = outer_site c.args.outer.now in
    step (λ xs. routines_names here (map placed_routine xs)) c.args.findings.now (routines_names here (map placed_routine c.args.list.now)) (λ x. routine_names here (placed_routine x)) (λ x xs more. refl)
    c.args.list.now c.loop-one.one-index c.one-item.result c.loop-one.findings c.routine.new.findings (omega arith) c.one-item.is c.in-Ok.ensures c.loop-one.invariant

pub returns : goal.returns
returns c = let here = outer_site c.args.outer.now in
    finish (λ xs. routines_names here (map placed_routine xs)) c.args.findings.now (routines_names here (map placed_routine c.args.list.now)) (λ more. refl)
    c.args.list.now c.loop-one.one-index c.loop-one.findings (omega arith) c.loop-one.invariant

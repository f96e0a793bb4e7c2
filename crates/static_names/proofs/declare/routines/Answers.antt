use Rattle.std.proofs.Common.{map, refl, arith}
use Rattle.syntax_tree.specs.Placed.{placed_routine}
use Rattle.static_names.specs.Occurrences.{routine_name}
use Rattle.static_names.specs.Seen.{meaning, outer_site}
use Rattle.static_names.proofs.Scoping.{loop-step, loop-end}
use Rattle.static_names.proofs.declare.routines.Goals as goal

pub loop-routine-preserved : goal.loop-routine-preserved
loop-routine-preserved c =
    loop-step (outer_site c.args.outer.now).means c.args.findings.now (meaning c.args.scope.now.entries) (map routine_name (map placed_routine c.args.list.now)) (λ xs. map routine_name (map placed_routine xs)) (λ x. routine_name (placed_routine x)) (λ x xs. refl)
    c.args.list.now c.loop-routine.routine-index c.routine-item.result c.loop-routine.findings c.declare.new.findings (meaning c.loop-routine.scope.entries) (meaning c.declare.new.scope.entries) (omega arith) c.routine-item.is c.loop-routine.invariant c.in-Ok.ensures

pub returns : goal.returns
returns c =
    loop-end (outer_site c.args.outer.now).means c.args.findings.now (meaning c.args.scope.now.entries) (map routine_name (map placed_routine c.args.list.now)) (λ xs. map routine_name (map placed_routine xs)) (λ x. routine_name (placed_routine x)) refl
    c.args.list.now c.loop-routine.routine-index c.loop-routine.findings (meaning c.loop-routine.scope.entries) (omega arith) c.loop-routine.invariant

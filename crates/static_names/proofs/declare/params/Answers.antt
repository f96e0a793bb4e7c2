use Rattle.std.proofs.Common.{map, refl, arith}
use Rattle.syntax_tree.specs.Placed.{placed_param}
use Rattle.static_names.specs.Occurrences.{param_name}
use Rattle.static_names.specs.Seen.{meaning, outer_site}
use Rattle.static_names.proofs.Scoping.{loop-step, loop-end}
use Rattle.static_names.proofs.declare.params.Goals as goal

pub loop-param-preserved : goal.loop-param-preserved
loop-param-preserved c =
    loop-step (outer_site c.args.outer.now).means c.args.findings.now (meaning c.args.scope.now.entries) (map param_name (map placed_param c.args.list.now)) (λ xs. map param_name (map placed_param xs)) (λ x. param_name (placed_param x)) (λ x xs. refl)
    c.args.list.now c.loop-param.param-index c.param-item.result c.loop-param.findings c.declare.new.findings (meaning c.loop-param.scope.entries) (meaning c.declare.new.scope.entries) (omega arith) c.param-item.is c.loop-param.invariant c.in-Ok.ensures

pub returns : goal.returns
returns c =
    loop-end (outer_site c.args.outer.now).means c.args.findings.now (meaning c.args.scope.now.entries) (map param_name (map placed_param c.args.list.now)) (λ xs. map param_name (map placed_param xs)) (λ x. param_name (placed_param x)) refl
    c.args.list.now c.loop-param.param-index c.loop-param.findings (meaning c.loop-param.scope.entries) (omega arith) c.loop-param.invariant

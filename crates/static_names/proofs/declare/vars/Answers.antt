use Rattle.std.proofs.Common.{map, refl, arith}
use Rattle.syntax_tree.specs.Placed.{placed_var}
use Rattle.static_names.specs.Occurrences.{var_name}
use Rattle.static_names.specs.Seen.{meaning, outer_site}
use Rattle.static_names.proofs.Scoping.{loop-step, loop-end}
use Rattle.static_names.proofs.declare.vars.Goals as goal

pub loop-var-preserved : goal.loop-var-preserved
loop-var-preserved c =
    loop-step (outer_site c.args.outer.now).means c.args.findings.now (meaning c.args.scope.now.entries) (map var_name (map placed_var c.args.list.now)) (λ xs. map var_name (map placed_var xs)) (λ x. var_name (placed_var x)) (λ x xs. refl)
    c.args.list.now c.loop-var.var-index c.var-item.result c.loop-var.findings c.declare.new.findings (meaning c.loop-var.scope.entries) (meaning c.declare.new.scope.entries) (omega arith) c.var-item.is c.loop-var.invariant c.in-Ok.ensures

pub returns : goal.returns
returns c =
    loop-end (outer_site c.args.outer.now).means c.args.findings.now (meaning c.args.scope.now.entries) (map var_name (map placed_var c.args.list.now)) (λ xs. map var_name (map placed_var xs)) (λ x. var_name (placed_var x)) refl
    c.args.list.now c.loop-var.var-index c.loop-var.findings (meaning c.loop-var.scope.entries) (omega arith) c.loop-var.invariant

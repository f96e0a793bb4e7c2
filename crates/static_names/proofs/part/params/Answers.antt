use Rattle.std.proofs.Common.{[], map, refl, arith}
use Rattle.syntax_tree.specs.Placed.{placed_param, placed_scalar}
use Rattle.static_names.specs.Occurrences.{params_names, scalar_names}
use Rattle.static_names.specs.Seen.{site}
use Rattle.static_names.proofs.Walks.{step, finish}
use Rattle.static_names.proofs.part.params.Goals as goal

pub loop-param-preserved : goal.loop-param-preserved
loop-param-preserved c = let here = site c.args.around.now [] in
    step (λ xs. params_names here (map placed_param xs)) c.args.findings.now (params_names here (map placed_param c.args.list.now)) (λ x. scalar_names here (placed_scalar x.kind)) (λ x xs more. refl)
    c.args.list.now c.loop-param.param-index c.param-item.result c.loop-param.findings c.scalar.new.findings (omega arith) c.param-item.is c.in-Ok.ensures c.loop-param.invariant

pub returns : goal.returns
returns c = let here = site c.args.around.now [] in
    finish (λ xs. params_names here (map placed_param xs)) c.args.findings.now (params_names here (map placed_param c.args.list.now)) (λ more. refl)
    c.args.list.now c.loop-param.param-index c.loop-param.findings (omega arith) c.loop-param.invariant

use Rattle.std.proofs.Common.{[], map, refl, arith}
use Rattle.syntax_tree.specs.Placed.{placed_var, placed_kind}
use Rattle.static_names.specs.Occurrences.{vars_names, kind_names}
use Rattle.static_names.specs.Seen.{site}
use Rattle.static_names.proofs.Walks.{step, finish}
use Rattle.static_names.proofs.part.vars.Goals as goal

pub loop-var-preserved : goal.loop-var-preserved
loop-var-preserved c = let here = site c.args.around.now [] in
    step (λ xs. vars_names here (map placed_var xs)) c.args.findings.now (vars_names here (map placed_var c.args.list.now)) (λ x. kind_names here (placed_kind x.kind)) (λ x xs more. refl)
    c.args.list.now c.loop-var.var-index c.var-item.result c.loop-var.findings c.kind.new.findings (omega arith) c.var-item.is c.in-Ok.ensures c.loop-var.invariant

pub returns : goal.returns
returns c = let here = site c.args.around.now [] in
    finish (λ xs. vars_names here (map placed_var xs)) c.args.findings.now (vars_names here (map placed_var c.args.list.now)) (λ more. refl)
    c.args.list.now c.loop-var.var-index c.loop-var.findings (omega arith) c.loop-var.invariant

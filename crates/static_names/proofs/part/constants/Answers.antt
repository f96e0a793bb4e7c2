use Rattle.std.proofs.Common.{[], map, refl, arith}
use Rattle.syntax_tree.specs.Placed.{placed_constant}
use Rattle.static_names.specs.Occurrences.{constants_names, constant_names}
use Rattle.static_names.specs.Seen.{site}
use Rattle.static_names.proofs.Walks.{step, finish}
use Rattle.static_names.proofs.part.constants.Goals as goal

pub loop-number-preserved : goal.loop-number-preserved
loop-number-preserved c = let here = site c.args.around.now [] in
    step (λ xs. constants_names here (map placed_constant xs)) c.args.findings.now (constants_names here (map placed_constant c.args.list.now)) (λ x. constant_names here (placed_constant x)) (λ x xs more. refl)
    c.args.list.now c.loop-number.number-index c.number-item.result c.loop-number.findings c.constant.new.findings (omega arith) c.number-item.is c.in-Ok.ensures c.loop-number.invariant

pub returns : goal.returns
returns c = let here = site c.args.around.now [] in
    finish (λ xs. constants_names here (map placed_constant xs)) c.args.findings.now (constants_names here (map placed_constant c.args.list.now)) (λ more. refl)
    c.args.list.now c.loop-number.number-index c.loop-number.findings (omega arith) c.loop-number.invariant

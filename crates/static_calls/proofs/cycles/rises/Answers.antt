use Rattle.std.proofs.Common.{◌≤◌, get_or, subst, arith}
use Rattle.std.specs.Prelude.{All}
use Rattle.std.proofs.lemmas.List.{take_all}
use Rattle.std.proofs.lemmas.List.Elements.{All-more}
use Rattle.static_calls.proofs.cycles.rises.Goals as goal

pub loop-to-preserved : goal.loop-to-preserved
loop-to-preserved c =
    All-more (λ to. c.args.least ≤ get_or c.args.numbers.now to 0) c.args.row.now c.loop-to.to-index 0 (omega arith) c.loop-to.invariant (let e = c.number.ensures in omega arith)

pub returns : goal.returns
returns c h = subst (λ l. All (λ to. c.args.least ≤ get_or c.args.numbers.now to 0) l) (take_all c.loop-to.to-index c.args.row.now (omega arith)) c.loop-to.invariant

use Rattle.std.proofs.Common.{◌∙◌, ap, sym, arith}
use Rattle.source_semantics.specs.Run as run
use Rattle.replay_calls.specs.Reach.{memory_of, site_of}
use Rattle.replay_next.specs.Remains.{told}
use Rattle.replay_next.specs.Weights.{costs, expr_weight}
use Rattle.replay_next.proofs.Oks.{ok_all}
use Rattle.replay_next.proofs.Texts.{of_chain, of_element}
use Rattle.replay_next.proofs.evaluating.evaluate.Goals as goal

pub returns-in-Element-clause-run : goal.returns-in-Element-clause-run
returns-in-Element-clause-run c =
    let s = site_of c.args.scope.now c.args.home c.args.depth in
    let m = memory_of c.args.memory.now in
    let is = of_element c.args.expr.now c.deref.result.now c.in-Element.place c.in-Element.name c.in-Element.index c.in-Element.is c.deref.ensures in
    ok_all c.deeper.result _ _ (λ step h. h s m ∙ ap (λ e. told s m c.args.remains (run.value s m e)) (sym is)) c.deeper.ensures.run

pub returns-in-Chain-clause-run : goal.returns-in-Chain-clause-run
returns-in-Chain-clause-run c =
    let s = site_of c.args.scope.now c.args.home c.args.depth in
    let m = memory_of c.args.memory.now in
    let is = of_chain c.args.expr.now c.deref-in-Chain.result.now c.in-Chain.first c.in-Chain.rest c.as_slice-in-Chain.result.now c.in-Chain.is c.deref-in-Chain.ensures c.as_slice-in-Chain.ensures in
    ok_all c.deeper-in-Chain.result _ _ (λ step h. h s m ∙ ap (λ e. told s m c.args.remains (run.value s m e)) (sym is)) c.deeper-in-Chain.ensures.run

pub returns-in-Chain-clause-falls : goal.returns-in-Chain-clause-falls
returns-in-Chain-clause-falls c =
    let k = costs c.args.scope.now c.args.depth in
    let is = of_chain c.args.expr.now c.deref-in-Chain.result.now c.in-Chain.first c.in-Chain.rest c.as_slice-in-Chain.result.now c.in-Chain.is c.deref-in-Chain.ensures c.as_slice-in-Chain.ensures in
    let size = ap (expr_weight k) is in
    ok_all c.deeper-in-Chain.result _ _ (λ step h. let weight = h k in omega (arith, size, weight)) c.deeper-in-Chain.ensures.falls

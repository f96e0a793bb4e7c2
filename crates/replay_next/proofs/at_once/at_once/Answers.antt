use Rattle.std.proofs.Common.{◌∙◌, ap, sym}
use Rattle.base.specs.Words.{with_word}
use Rattle.source_semantics.specs.Run as run
use Rattle.replay_calls.specs.Reach.{memory_of, site_of}
use Rattle.replay_next.specs.Remains.{operands_of}
use Rattle.replay_next.proofs.Oks.{some_all}
use Rattle.replay_next.proofs.Texts.{of_chain}
use Rattle.replay_next.proofs.at_once.at_once.Goals as goal

pub returns-in_ok-left-in-Chain : goal.returns-in_ok-left-in-Chain
returns-in_ok-left-in-Chain c =
    let s = site_of c.args.scope.now c.args.home c.args.depth in
    let m = memory_of c.args.memory.now in
    let w = c.in-Chain in
    let ys = c.as_slice.result.now in
    let is = of_chain c.args.expr.now c.deref.result.now w.first w.rest ys w.is c.deref.ensures c.as_slice.ensures in
    some_all c.operands.result _ _ (λ answer h.
    h ∙ (ap (λ a. with_word a (λ v. run.row_value s m (operands_of ys) v)) c.in_ok-left-in-Chain.ensures ∙ ap (run.value s m) (sym is))) c.operands.ensures

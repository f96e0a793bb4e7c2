use Rattle.std.proofs.Common.{◌∙◌, ap, sym}
use Rattle.base.specs.Words.{with_word}
use Rattle.source_semantics.specs.Run as run
use Rattle.replay_calls.specs.Reach.{memory_of, site_of}
use Rattle.replay_next.proofs.Texts.{of_element}
use Rattle.replay_next.proofs.at_once.operand.Goals as goal

pub returns-in_ok-at-in-Element : goal.returns-in_ok-at-in-Element
returns-in_ok-at-in-Element c =
    let s = site_of c.args.scope.now c.args.home c.args.depth in
    let m = memory_of c.args.memory.now in
    let w = c.in-Element in
    let is = of_element c.args.expr.now c.deref.result.now w.place w.name w.index w.is c.deref.ensures in
    c.element.ensures
    ∙ (ap (λ a. with_word a (λ v. run.read_element (run.slot_in s.home m w.name) v)) c.in_ok-at-in-Element.ensures
    ∙ ap (run.value s m) (sym is))

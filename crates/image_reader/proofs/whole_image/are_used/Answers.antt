use Rattle.std.proofs.Common.{◌≡◌, ◌∙◌, ◌-◌, ap, arith, sym}
use Rattle.image_reader.specs.File.{all_used}
use Rattle.image_reader.proofs.Ends.{one_more_used, one_unused}
use Rattle.image_reader.proofs.whole_image.are_used.Goals as goal

pub returns : goal.returns
returns c =
    let i = c.loop-event.event-counter in
    let none_left : c.args.events - i ≡ 0 = omega arith in
    sym (ap (all_used c.args.used.now i) none_left) ∙ c.loop-event.invariant

pub loop-event-preserved : goal.loop-event-preserved
loop-event-preserved c =
    one_more_used c.args.used.now c.loop-event.event-counter c.args.events _ c.loop-event-test.true (sym c.contains.ensures.value ∙ c.if-not-contains.false) c.loop-event.invariant

pub returns-then-not-contains : goal.returns-then-not-contains
returns-then-not-contains c =
    one_unused c.args.used.now c.loop-event.event-counter c.args.events _ c.loop-event-test.true (sym c.contains.ensures.value ∙ c.if-not-contains.true) c.loop-event.invariant

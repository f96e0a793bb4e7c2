use Rattle.std.proofs.Common.{◌∙◌, sym}
use Rattle.image_reader.proofs.Frames.{found_frame, next_other, next_periodic}
use Rattle.image_reader.proofs.whole_image.frame_for.Goals as goal
use Rattle.image_reader.proofs.whole_image.frame_for.Goals.{else-process-ne0-via-then-process-ne0+else-from-event, else-process-ne0-via-else-process-ne0}

pub returns-then-from-event : goal.returns-then-from-event
returns-then-from-event c =
    found_frame c.args.event c.args.processes.now c.loop-process.process-index c.process-item.result _ c.loop-process-test.true c.process-item.is c.if-process-ne0.true (sym c.from.ensures ∙ c.if-from-event.true) c.loop-process.invariant

pub loop-process-preserved : goal.loop-process-preserved
loop-process-preserved c =
    let ps = c.args.processes.now in
    let i = c.loop-process.process-index in
    let p = c.process-item.result in
    elim c.else-process-ne0.branch [
      | else-process-ne0-via-then-process-ne0+else-from-event w ↦ next_other c.args.event ps i p _ c.loop-process-test.true c.process-item.is w.if-process-ne0.true (λ same. w.if-from-event.false (w.from.ensures ∙ same)) c.loop-process.invariant
      | else-process-ne0-via-else-process-ne0 w ↦ next_periodic c.args.event ps i p _ c.loop-process-test.true c.process-item.is w.if-process-ne0.false c.loop-process.invariant
    ]

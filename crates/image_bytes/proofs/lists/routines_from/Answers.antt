use Rattle.image_bytes.proofs.Steps.{one_routine_more}
use Rattle.image_bytes.proofs.lists.routines_from.Goals as goal

pub loop-routine-preserved : goal.loop-routine-preserved
loop-routine-preserved c =
    one_routine_more c.args.routines.now c.loop-routine.routine-index c.routine-item.result c.args.start _ c.loop-routine.at c.loop-routine.places _ c.after_routine-at.result c.loop-routine-test.true
    c.routine-item.is c.routine_is_read.ensures c.loop-routine.invariant c.after_routine-at.ensures c.in_ok-push.ensures.ok

use Rattle.image.specs.Bytes.{routine_bytes}
use Rattle.image.specs.Raw.{routine_of}
use Rattle.image.proofs.Mapped.{one_more}
use Rattle.image.proofs.image.put_routines.Goals as goal

pub loop-routine-preserved : goal.loop-routine-preserved
loop-routine-preserved c =
    one_more routine_of routine_bytes c.args.routines.now c.loop-routine.routine-index c.routine-item.result c.args.out.now.items c.loop-routine.out.items c.put_routine.new.out.items
    c.loop-routine-test.true c.routine-item.is c.loop-routine.invariant c.in_ok-put_routine.ensures

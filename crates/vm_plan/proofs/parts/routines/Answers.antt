use Rattle.std.proofs.Common.{arith}
use Rattle.image_bytes.specs.Standing.{routine_in}
use Rattle.vm_plan.specs.Called.{called_of}
use Rattle.vm_plan.proofs.Growing.{map_grown}
use Rattle.vm_plan.proofs.parts.routines.Goals as goal

pub loop-number-preserved : goal.loop-number-preserved
loop-number-preserved c =
    let k = c.loop-number.number in
    let routine = routine_in c.routine-routine.result in
    let more = map_grown called_of c.args.image.now.image.routines k routine c.routine-routine.ensures in
    grind (arith, c.in_ok-push.ensures.items, c.loop-number.invariant, more)

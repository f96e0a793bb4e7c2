use Rattle.std.proofs.Common.{arith}
use Rattle.vm_plan.proofs.Growing.{take_grown}
use Rattle.vm_plan.proofs.parts.instructions.Goals as goal

pub loop-at-preserved : goal.loop-at-preserved
loop-at-preserved c =
    let more = take_grown c.args.image.now.image.code c.loop-at.at c.instr.result c.instr.ensures in
    grind (arith, c.in_ok-push.ensures.items, c.loop-at.invariant, more)

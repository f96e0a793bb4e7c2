use Rattle.std.proofs.Common.{arith}
use Rattle.image.specs.Raw.{monitor_of}
use Rattle.machine_semantics.specs.Image.{Monitor}
use Rattle.vm_plan.proofs.Growing.{map_grown}
use Rattle.vm_plan.proofs.parts.ceilings.Goals as goal

pub loop-number-preserved : goal.loop-number-preserved
loop-number-preserved c =
    let k = c.loop-number.number in
    let more = map_grown (λ (m : Monitor). m.ceiling) c.args.image.now.image.monitors k (monitor_of c.monitor.result) c.monitor.ensures in
    grind (arith, c.in_ok-push.ensures.items, c.loop-number.invariant, more)

use Rattle.std.proofs.Common.{arith}
use Rattle.image.specs.Raw.{monitor_of}
use Rattle.vm_plan.proofs.Growing.{words_grown}
use Rattle.vm_plan.proofs.parts.words.Goals as goal

pub loop-number-preserved : goal.loop-number-preserved
loop-number-preserved c =
    let k = c.loop-number.number in
    let more = words_grown c.args.image.now.image.monitors k (monitor_of c.monitor.result) c.monitor.ensures in
    record { words = omega (arith, more, c.loop-number.invariant.words); few = omega arith }

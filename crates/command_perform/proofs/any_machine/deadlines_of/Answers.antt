use Rattle.std.proofs.Common.{arith}
use Rattle.image_bytes.specs.Standing.{process_in}
use Rattle.machine_semantics.specs.Image.{Process}
use Rattle.vm_plan.proofs.Growing.{map_grown}
use Rattle.command_perform.proofs.any_machine.deadlines_of.Goals as goal

pub loop-number-preserved : goal.loop-number-preserved
loop-number-preserved c =
    let more = map_grown (λ (p : Process). p.deadline) c.args.image.now.image.processes c.loop-number.number (process_in c.process.result) c.process.ensures in
    grind (arith, c.in_ok-push.ensures.items, c.loop-number.invariant, more)

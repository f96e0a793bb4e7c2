use Rattle.std.proofs.Common.{◌+◌, List, take, subst, sym}
use Rattle.image_bytes.specs.Standing.{process_in}
use Rattle.vm_state.specs.declared.decoded_image.DecodedProcess.{DecodedProcess}
use Rattle.vm_state.specs.Plan.{AreProcesses}
use Rattle.vm_plan.proofs.Growing.{are_grown}
use Rattle.vm_plan.proofs.process.processes.Goals as goal

pub loop-number-preserved : goal.loop-number-preserved
loop-number-preserved c =
    let wholes = c.args.image.now.image.processes in
    let k = c.loop-number.number in
    let whole = process_in c.process-process.result in
    subst (λ (ps : List DecodedProcess). AreProcesses (take (k + 1) wholes) ps) (sym {A = List DecodedProcess} c.in_ok-push.ensures.items)
    (are_grown wholes k whole c.loop-number.processes.items c.in_ok-process_of.field-0 c.process-process.ensures c.loop-number.invariant c.in_ok-process_of.ensures)

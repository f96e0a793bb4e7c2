use Rattle.std.proofs.Common.{◌≡◌, ◌<◌, length, Some, arith, ap, ◌∙◌}
use Rattle.std.specs.Prelude.{slice_get}
use Rattle.image.specs.Raw.{image_of, process_of}
use Rattle.loader_code.proofs.Seeking.{stops_in, goes_on_in}
use Rattle.loader.proofs.Needs.{read, copied}
use Rattle.faulty_part.specs.declared.part.FaultyPart.TheVariants as part
use Rattle.faulty_part.specs.declared.part.Subject.TheVariants as subject
use Rattle.faulty_part.specs.Parts.{of, stack_of_process}
use Rattle.validity_parts.proofs.Needs.{stack_named}
use Rattle.validity_parts.proofs.Coding.{starts_in}
use Rattle.validity_parts.proofs.sizes.processes_fault.Goals as goal

pub returns-in-Some : goal.returns-in-Some
returns-in-Some c =
    let raw = c.args.raw.now in
    let at = c.loop-k.k in
    let low : at < length c.as_slice-processes.result.now = omega arith in
    let low' : at < length raw.processes = omega (arith, low, ap length c.as_slice-processes.ensures) in
    let x : slice_get raw.processes at ≡ Some c.index-processes-k.result = read c.as_slice-processes.result.now raw.processes at c.index-processes-k.result c.as_slice-processes.ensures low c.index-processes-k.is in
    let kept = copied c.as_slice-kept.result.now c.args.parts.now.processes at _ c.as_slice-kept.ensures (omega (arith, low', c.requires.processes.count)) in
    stops_in process_of (stack_of_process (image_of raw)) raw.processes c.as_slice-processes.result.now at c.index-processes-k.result _ _ c.as_slice-processes.ensures low c.index-processes-k.is
    (c.in-Some.ensures ∙ ap (of (part.Process at) subject.Stack) (c.stack_shortfall-short.ensures ∙ stack_named raw c.args.parts.now at c.index-processes-k.result _ c.requires x kept)) c.loop-k.invariant

pub loop-k-preserved : goal.loop-k-preserved
loop-k-preserved c =
    let raw = c.args.raw.now in
    let at = c.loop-k.k in
    let low : at < length c.as_slice-processes.result.now = omega arith in
    let low' : at < length raw.processes = omega (arith, low, ap length c.as_slice-processes.ensures) in
    let x : slice_get raw.processes at ≡ Some c.index-processes-k.result = read c.as_slice-processes.result.now raw.processes at c.index-processes-k.result c.as_slice-processes.ensures low c.index-processes-k.is in
    let kept = copied c.as_slice-kept.result.now c.args.parts.now.processes at _ c.as_slice-kept.ensures (omega (arith, low', c.requires.processes.count)) in
    goes_on_in process_of (stack_of_process (image_of raw)) raw.processes c.as_slice-processes.result.now at c.index-processes-k.result _ c.as_slice-processes.ensures low c.index-processes-k.is
    (c.in-None.ensures ∙ ap (of (part.Process at) subject.Stack) (c.stack_shortfall-short.ensures ∙ stack_named raw c.args.parts.now at c.index-processes-k.result _ c.requires x kept)) c.loop-k.invariant

pub loop-k-init : goal.loop-k-init
loop-k-init c = starts_in process_of (stack_of_process (image_of c.args.raw.now)) c.args.raw.now.processes

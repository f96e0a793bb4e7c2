use Rattle.std.proofs.Common.{◌∙◌, ap}
use Rattle.image.specs.Raw.{image_of, process_of}
use Rattle.loader_code.proofs.Seeking.{stops_in, goes_on_in}
use Rattle.loader.proofs.InOrder.{level_there}
use Rattle.faulty_part.specs.Parts.{bound_of_process}
use Rattle.validity_parts.specs.Found.{bound_by}
use Rattle.validity_parts.proofs.Coding.{starts_in}
use Rattle.validity_parts.proofs.bounds.bound_part_fault.Goals as goal

pub returns-in-Some : goal.returns-in-Some
returns-in-Some c = stops_in process_of (bound_of_process (image_of c.args.raw.now)) c.args.raw.now.processes c.as_slice-processes.result.now c.loop-number.number c.index-processes-number.result _ _ c.as_slice-processes.ensures c.loop-number-test.true c.index-processes-number.is (c.in-Some.ensures ∙ ap (λ ts. bound_by ts c.loop-number.number (process_of c.index-processes-number.result)) c.requires.set) c.loop-number.invariant

pub loop-number-preserved : goal.loop-number-preserved
loop-number-preserved c = goes_on_in process_of (bound_of_process (image_of c.args.raw.now)) c.args.raw.now.processes c.as_slice-processes.result.now c.loop-number.number c.index-processes-number.result _ c.as_slice-processes.ensures c.loop-number-test.true c.index-processes-number.is (c.in-None.ensures ∙ ap (λ ts. bound_by ts c.loop-number.number (process_of c.index-processes-number.result)) c.requires.set) c.loop-number.invariant

pub process_fault-requires : goal.process_fault-requires
process_fault-requires c = level_there c.args.raw.now c.as_slice-processes.result.now c.args.set.now c.loop-number.number c.index-processes-number.result c.requires.ranks c.requires.set c.as_slice-processes.ensures c.loop-number-test.true c.index-processes-number.is

pub loop-number-init : goal.loop-number-init
loop-number-init c = starts_in process_of (bound_of_process (image_of c.args.raw.now)) c.args.raw.now.processes

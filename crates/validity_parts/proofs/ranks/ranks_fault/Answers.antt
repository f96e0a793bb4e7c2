use Rattle.std.proofs.Common.{◌∙◌, ap}
use Rattle.image.specs.Raw.{image_of, process_of}
use Rattle.valid_image.specs.Sizes.{other}
use Rattle.loader_code.proofs.Seeking.{stops_in, goes_on_in}
use Rattle.faulty_part.specs.declared.part.FaultyPart.TheVariants as part
use Rattle.faulty_part.specs.declared.part.Subject.TheVariants as subject
use Rattle.faulty_part.specs.Parts.{of, rank_of_process}
use Rattle.validity_parts.proofs.Coding.{starts_in}
use Rattle.validity_parts.proofs.ranks.ranks_fault.Goals as goal

pub returns-in-Some : goal.returns-in-Some
returns-in-Some c = stops_in process_of (rank_of_process (image_of c.args.raw.now)) c.args.raw.now.processes c.as_slice-processes.result.now c.loop-number.number c.index-processes-number.result _ _ c.as_slice-processes.ensures c.loop-number-test.true c.index-processes-number.is (c.in-Some.ensures ∙ ap (λ d. of (part.Process c.loop-number.number) subject.Rank (other c.index-processes-number.result.rank d)) c.rank_of-due.ensures) c.loop-number.invariant

pub loop-number-preserved : goal.loop-number-preserved
loop-number-preserved c = goes_on_in process_of (rank_of_process (image_of c.args.raw.now)) c.args.raw.now.processes c.as_slice-processes.result.now c.loop-number.number c.index-processes-number.result _ c.as_slice-processes.ensures c.loop-number-test.true c.index-processes-number.is (c.in-None.ensures ∙ ap (λ d. of (part.Process c.loop-number.number) subject.Rank (other c.index-processes-number.result.rank d)) c.rank_of-due.ensures) c.loop-number.invariant

pub loop-number-init : goal.loop-number-init
loop-number-init c = starts_in process_of (rank_of_process (image_of c.args.raw.now)) c.args.raw.now.processes

use Rattle.std.proofs.Common.{◌∙◌, ap}
use Rattle.image.specs.Raw.{image_of, process_of}
use Rattle.valid_image.specs.Sizes.{below}
use Rattle.valid_image.specs.Times.{needed_block}
use Rattle.loader_code.proofs.Seeking.{stops_in, goes_on_in}
use Rattle.loader.proofs.ranks.blocks_fault.Goals as goal

pub returns-in-Some : goal.returns-in-Some
returns-in-Some c = stops_in process_of (λ k p. below p.block (needed_block (image_of c.args.image.now) p.rank)) c.args.image.now.processes c.as_slice-processes.result.now c.loop-number.number c.index-processes-number.result _ _ c.as_slice-processes.ensures c.loop-number-test.true c.index-processes-number.is (c.in-Some.ensures ∙ ap (λ d. below c.index-processes-number.result.block d) c.needed_block-needed.ensures) c.loop-number.invariant

pub loop-number-preserved : goal.loop-number-preserved
loop-number-preserved c = goes_on_in process_of (λ k p. below p.block (needed_block (image_of c.args.image.now) p.rank)) c.args.image.now.processes c.as_slice-processes.result.now c.loop-number.number c.index-processes-number.result _ c.as_slice-processes.ensures c.loop-number-test.true c.index-processes-number.is (c.in-None.ensures ∙ ap (λ d. below c.index-processes-number.result.block d) c.needed_block-needed.ensures) c.loop-number.invariant

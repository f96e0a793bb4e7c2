use Rattle.std.proofs.Common.{◌∙◌, ap}
use Rattle.image.specs.Raw.{image_of, process_of}
use Rattle.valid_image.specs.Sizes.{other}
use Rattle.valid_image.specs.Times.{rank_of}
use Rattle.loader_code.proofs.Seeking.{stops_in, goes_on_in}
use Rattle.loader.proofs.ranks.ranks_fault.Goals as goal

pub returns-in-Some : goal.returns-in-Some
returns-in-Some c = stops_in process_of (λ k p. other p.rank (rank_of (image_of c.args.image.now) k)) c.args.image.now.processes c.as_slice-processes.result.now c.loop-number.number c.index-processes-number.result _ _ c.as_slice-processes.ensures c.loop-number-test.true c.index-processes-number.is (c.in-Some.ensures ∙ ap (λ d. other c.index-processes-number.result.rank d) c.rank_of-due.ensures) c.loop-number.invariant

pub loop-number-preserved : goal.loop-number-preserved
loop-number-preserved c = goes_on_in process_of (λ k p. other p.rank (rank_of (image_of c.args.image.now) k)) c.args.image.now.processes c.as_slice-processes.result.now c.loop-number.number c.index-processes-number.result _ c.as_slice-processes.ensures c.loop-number-test.true c.index-processes-number.is (c.in-None.ensures ∙ ap (λ d. other c.index-processes-number.result.rank d) c.rank_of-due.ensures) c.loop-number.invariant

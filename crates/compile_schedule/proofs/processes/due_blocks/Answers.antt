use Rattle.std.proofs.Common.{◌∙◌, List, map, ap}
use Rattle.machine_semantics.specs.Image.{Process}
use Rattle.image.specs.declared.raw.RawProcess.{RawProcess}
use Rattle.image.specs.Raw.{image_of, process_of}
use Rattle.valid_image.specs.Times.{needed_block}
use Rattle.compile_schedule.proofs.Listing.{all_made}
use Rattle.compile_schedule.proofs.processes.due_blocks.Goals as goal

pub returns : goal.returns
returns c =
    all_made process_of (λ (p : Process). needed_block (image_of c.args.image.now) p.rank) c.as_slice-process-items.result.now c.loop-process.blocks.items c.loop-process.process-index
    c.loop-process-test.false c.loop-process.invariant
    ∙ ap (λ (ps : List RawProcess). map (λ (p : Process). needed_block (image_of c.args.image.now) p.rank) (map process_of ps)) c.as_slice-process-items.ensures

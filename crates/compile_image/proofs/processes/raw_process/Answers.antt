use Rattle.std.proofs.Common.{◌∙◌, ap}
use Rattle.syntax_tree.specs.Placed.{placed, placed_process, plain, plain_process}
use Rattle.image_format.specs.View.{views}
use Rattle.compile_image.proofs.Counted.{process-is}
use Rattle.compile_image.proofs.processes.raw_process.Goals as goal

pub returns : goal.returns
returns c =
    process-is (plain (placed c.args.values.now)) c.args.events.now c.args.over (plain_process (placed_process c.args.process.now)) c.args.parts.now c.args.size
    c.released-release.result c.with_dispatches.result c.in-Ok.it c.frame.result c.handler_start.result c.in-Ok-handler_numbers.it c.in-Ok-of.it c.in-Ok-handler_tree.it
    c.released-release.ensures c.with_dispatches.ensures c.in-Ok.ensures c.frame.ensures c.handler_start.ensures c.in-Ok-handler_numbers.ensures (c.in-Ok-of.ensures ∙ ap (λ segs. views segs) c.as_slice.ensures) c.in-Ok-handler_tree.ensures

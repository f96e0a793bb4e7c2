use Rattle.std.proofs.Common.{◌≡◌, ◌<◌, length, Some, arith, ap, ◌∙◌}
use Rattle.std.specs.Prelude.{slice_get}
use Rattle.valid_image.specs.Fault.{unless}
use Rattle.loader.proofs.Needs.{search_stops, search_on, read}
use Rattle.loader.proofs.Waiting.{handler_at, handler_tested}
use Rattle.loader.proofs.handlers.handler_fault.Goals as goal

pub returns-then-not-is_handler : goal.returns-then-not-is_handler
returns-then-not-is_handler c =
    let raw = c.args.raw.now in
    let k = c.loop-k.k in
    let items = c.as_slice-process-items.ensures in
    let low : k < length c.as_slice-process-items.result.now = omega arith in
    let low' : k < length raw.processes = omega (arith, low, ap length items) in
    let at : slice_get raw.processes k ≡ Some c.process-item.result = read c.as_slice-process-items.result.now raw.processes k c.process-item.result items low c.process-item.is in
    let test = handler_tested raw c.args.waits.now k c.process-item.result c.is_handler.result c.requires at c.is_handler.ensures in
    search_stops (handler_at raw) _ (length raw.processes) k _ low' c.loop-k.invariant (test ∙ ap (λ t. unless t k 0) c.if-not-is_handler.true)

pub loop-k-preserved : goal.loop-k-preserved
loop-k-preserved c =
    let raw = c.args.raw.now in
    let k = c.loop-k.k in
    let items = c.as_slice-process-items.ensures in
    let low : k < length c.as_slice-process-items.result.now = omega arith in
    let low' : k < length raw.processes = omega (arith, low, ap length items) in
    let at : slice_get raw.processes k ≡ Some c.process-item.result = read c.as_slice-process-items.result.now raw.processes k c.process-item.result items low c.process-item.is in
    let test = handler_tested raw c.args.waits.now k c.process-item.result c.is_handler.result c.requires at c.is_handler.ensures in
    search_on (handler_at raw) _ (length raw.processes) k low' c.loop-k.invariant (test ∙ ap (λ t. unless t k 0) c.if-not-is_handler.false)

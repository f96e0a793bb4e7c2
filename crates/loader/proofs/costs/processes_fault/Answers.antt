use Rattle.std.proofs.Common.{◌≡◌, ◌<◌, length, Some, arith, ap, sym, ◌∙◌, map}
use Rattle.std.specs.Prelude.{slice_get}
use Rattle.image.specs.Raw.{image_of, process_of}
use Rattle.valid_image.specs.Fault.{of_some}
use Rattle.valid_image.specs.Sizes.{process_cost_fault}
use Rattle.loader.proofs.Needs.{search_starts, search_stops, search_on, search_ends, read, copied, process_costs}
use Rattle.loader.proofs.costs.processes_fault.Goals as goal

pub loop-k-init : goal.loop-k-init
loop-k-init c = search_starts (λ k p. process_cost_fault (image_of c.args.raw.now) p) process_of c.args.raw.now.processes

pub returns-in-Some : goal.returns-in-Some
returns-in-Some c =
    let raw = c.args.raw.now in
    let at = c.loop-k.k in
    let low : at < length c.as_slice-processes.result.now = omega arith in
    let low' : at < length raw.processes = omega (arith, low, ap length c.as_slice-processes.ensures) in
    let x : slice_get raw.processes at ≡ Some c.index-processes-k.result = read c.as_slice-processes.result.now raw.processes at c.index-processes-k.result c.as_slice-processes.ensures low c.index-processes-k.is in
    let kept = copied c.as_slice-kept.result.now c.args.parts.now.processes at _ c.as_slice-kept.ensures (omega (arith, low', c.requires.processes.count)) in
    search_stops (λ k. of_some (λ p. process_cost_fault (image_of raw) p) (slice_get (map process_of raw.processes) k)) _ (length raw.processes) at _ low' c.loop-k.invariant (process_costs raw c.args.parts.now at c.index-processes-k.result _ c.requires x kept ∙ sym c.in-Some.ensures)

pub loop-k-preserved : goal.loop-k-preserved
loop-k-preserved c =
    let raw = c.args.raw.now in
    let at = c.loop-k.k in
    let low : at < length c.as_slice-processes.result.now = omega arith in
    let low' : at < length raw.processes = omega (arith, low, ap length c.as_slice-processes.ensures) in
    let x : slice_get raw.processes at ≡ Some c.index-processes-k.result = read c.as_slice-processes.result.now raw.processes at c.index-processes-k.result c.as_slice-processes.ensures low c.index-processes-k.is in
    let kept = copied c.as_slice-kept.result.now c.args.parts.now.processes at _ c.as_slice-kept.ensures (omega (arith, low', c.requires.processes.count)) in
    search_on (λ k. of_some (λ p. process_cost_fault (image_of raw) p) (slice_get (map process_of raw.processes) k)) _ (length raw.processes) at low' c.loop-k.invariant (process_costs raw c.args.parts.now at c.index-processes-k.result _ c.requires x kept ∙ sym c.in-None.ensures)

pub returns : goal.returns
returns c = search_ends (λ k. of_some (λ p. process_cost_fault (image_of c.args.raw.now) p) (slice_get (map process_of c.args.raw.now.processes) k)) _ (length c.args.raw.now.processes) c.loop-k.k (omega (arith, c.loop-k-test.false, ap length c.as_slice-processes.ensures)) c.loop-k.invariant

use Rattle.std.proofs.Common.{◌≡◌, ◌<◌, length, Some, arith, ap, sym, ◌∙◌, map}
use Rattle.std.specs.Prelude.{slice_get}
use Rattle.image.specs.Raw.{image_of, routine_of}
use Rattle.valid_image.specs.Fault.{of_some}
use Rattle.valid_image.specs.Sizes.{routine_cost_fault}
use Rattle.loader.proofs.Needs.{search_starts, search_stops, search_on, search_ends, read, copied, routine_costs}
use Rattle.loader.proofs.costs.routines_fault.Goals as goal

pub loop-r-init : goal.loop-r-init
loop-r-init c = search_starts (routine_cost_fault (image_of c.args.raw.now)) routine_of c.args.raw.now.routines

pub returns-in-Some : goal.returns-in-Some
returns-in-Some c =
    let raw = c.args.raw.now in
    let at = c.loop-r.r in
    let low : at < length c.as_slice-routines.result.now = omega arith in
    let low' : at < length raw.routines = omega (arith, low, ap length c.as_slice-routines.ensures) in
    let x : slice_get raw.routines at ≡ Some c.index-routines-r.result = read c.as_slice-routines.result.now raw.routines at c.index-routines-r.result c.as_slice-routines.ensures low c.index-routines-r.is in
    let kept = copied c.as_slice-kept.result.now c.args.parts.now.routines at _ c.as_slice-kept.ensures (omega (arith, low', c.requires.routines.count)) in
    search_stops (λ k. of_some (routine_cost_fault (image_of raw) k) (slice_get (map routine_of raw.routines) k)) _ (length raw.routines) at _ low' c.loop-r.invariant (routine_costs raw c.args.parts.now at c.index-routines-r.result _ c.requires x kept ∙ sym c.in-Some.ensures)

pub loop-r-preserved : goal.loop-r-preserved
loop-r-preserved c =
    let raw = c.args.raw.now in
    let at = c.loop-r.r in
    let low : at < length c.as_slice-routines.result.now = omega arith in
    let low' : at < length raw.routines = omega (arith, low, ap length c.as_slice-routines.ensures) in
    let x : slice_get raw.routines at ≡ Some c.index-routines-r.result = read c.as_slice-routines.result.now raw.routines at c.index-routines-r.result c.as_slice-routines.ensures low c.index-routines-r.is in
    let kept = copied c.as_slice-kept.result.now c.args.parts.now.routines at _ c.as_slice-kept.ensures (omega (arith, low', c.requires.routines.count)) in
    search_on (λ k. of_some (routine_cost_fault (image_of raw) k) (slice_get (map routine_of raw.routines) k)) _ (length raw.routines) at low' c.loop-r.invariant (routine_costs raw c.args.parts.now at c.index-routines-r.result _ c.requires x kept ∙ sym c.in-None.ensures)

pub returns : goal.returns
returns c = search_ends (λ k. of_some (routine_cost_fault (image_of c.args.raw.now) k) (slice_get (map routine_of c.args.raw.now.routines) k)) _ (length c.args.raw.now.routines) c.loop-r.r (omega (arith, c.loop-r-test.false, ap length c.as_slice-routines.ensures)) c.loop-r.invariant

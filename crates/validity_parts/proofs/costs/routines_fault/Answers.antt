use Rattle.std.proofs.Common.{◌≡◌, ◌<◌, length, Some, arith, ap, ◌∙◌}
use Rattle.std.specs.Prelude.{slice_get}
use Rattle.image.specs.Raw.{image_of, routine_of}
use Rattle.loader_code.proofs.Seeking.{stops_in, goes_on_in}
use Rattle.loader.proofs.Needs.{read, copied}
use Rattle.faulty_part.specs.Parts.{cost_of_routine}
use Rattle.validity_parts.proofs.Needs.{routine_named}
use Rattle.validity_parts.proofs.Coding.{starts_in}
use Rattle.validity_parts.proofs.costs.routines_fault.Goals as goal

pub returns-in-Some : goal.returns-in-Some
returns-in-Some c =
    let raw = c.args.raw.now in
    let at = c.loop-r.r in
    let low : at < length c.as_slice-routines.result.now = omega arith in
    let low' : at < length raw.routines = omega (arith, low, ap length c.as_slice-routines.ensures) in
    let x : slice_get raw.routines at ≡ Some c.index-routines-r.result = read c.as_slice-routines.result.now raw.routines at c.index-routines-r.result c.as_slice-routines.ensures low c.index-routines-r.is in
    let kept = copied c.as_slice-kept.result.now c.args.parts.now.routines at _ c.as_slice-kept.ensures (omega (arith, low', c.requires.routines.count)) in
    stops_in routine_of (cost_of_routine (image_of raw)) raw.routines c.as_slice-routines.result.now at c.index-routines-r.result _ _ c.as_slice-routines.ensures low c.index-routines-r.is
    (c.in-Some.ensures ∙ routine_named raw c.args.parts.now at c.index-routines-r.result _ c.requires x kept) c.loop-r.invariant

pub loop-r-preserved : goal.loop-r-preserved
loop-r-preserved c =
    let raw = c.args.raw.now in
    let at = c.loop-r.r in
    let low : at < length c.as_slice-routines.result.now = omega arith in
    let low' : at < length raw.routines = omega (arith, low, ap length c.as_slice-routines.ensures) in
    let x : slice_get raw.routines at ≡ Some c.index-routines-r.result = read c.as_slice-routines.result.now raw.routines at c.index-routines-r.result c.as_slice-routines.ensures low c.index-routines-r.is in
    let kept = copied c.as_slice-kept.result.now c.args.parts.now.routines at _ c.as_slice-kept.ensures (omega (arith, low', c.requires.routines.count)) in
    goes_on_in routine_of (cost_of_routine (image_of raw)) raw.routines c.as_slice-routines.result.now at c.index-routines-r.result _ c.as_slice-routines.ensures low c.index-routines-r.is
    (c.in-None.ensures ∙ routine_named raw c.args.parts.now at c.index-routines-r.result _ c.requires x kept) c.loop-r.invariant

pub loop-r-init : goal.loop-r-init
loop-r-init c = starts_in routine_of (cost_of_routine (image_of c.args.raw.now)) c.args.raw.now.routines

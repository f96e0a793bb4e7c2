use Rattle.std.proofs.Common.{◌≡◌, ◌<◌, length, Some, arith, ap, refl, sym, ◌∙◌, map}
use Rattle.std.specs.Prelude.{slice_get}
use Rattle.image.specs.Raw.{routine_of}
use Rattle.machine_semantics.specs.Image.{Routine}
use Rattle.valid_image.specs.Fault.{of_some}
use Rattle.valid_image.specs.Sizes.{below}
use Rattle.loader.proofs.Needs.{search_starts, search_on, read, params_at}
use Rattle.loader.proofs.sizes.params_fault.Goals as goal

pub loop-routine-init : goal.loop-routine-init
loop-routine-init c = search_starts (λ k (x : Routine). below x.locals x.params) routine_of c.args.routines.now

pub loop-routine-preserved : goal.loop-routine-preserved
loop-routine-preserved c =
    let xs = c.args.routines.now in
    let at = c.loop-routine.routine-index in
    let low : at < length xs = omega arith in
    let x : slice_get xs at ≡ Some c.routine-item.result = read xs xs at c.routine-item.result refl low c.routine-item.is in
    search_on (λ k. of_some (λ (y : Routine). below y.locals y.params) (slice_get (map routine_of xs) k)) _ (length xs) at low c.loop-routine.invariant
    (params_at xs at c.routine-item.result x ∙ ap (λ n. below n c.routine-item.result.params) (sym c.from.ensures) ∙ ap (λ n. below c.from.result n) (sym c.from-in-loop-routine.ensures) ∙ sym c.in-None.ensures)

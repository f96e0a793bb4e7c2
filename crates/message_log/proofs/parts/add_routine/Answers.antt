use Rattle.std.proofs.Common.{◌≡◌, ◌<◌, Some, length, ap, sym, ◌∙◌, ltb-true}
use Rattle.std.specs.Prelude.{slice_get}
use Rattle.std.proofs.lemmas.Option.{slice_get-get_or}
use Rattle.base.proofs.Lists.{map_get}
use Rattle.image.specs.Raw.{routine_of}
use Rattle.message_log.proofs.parts.add_routine.Goals as goal

pub returns-in-Some : goal.returns-in-Some
returns-in-Some c =
    let xs = c.args.raw.now.routines in
    let ys = c.as_slice.result.now in
    let i = c.args.number in
    let x = c.in-Some.routine.now in
    let low : i < length ys = ltb-true i (length ys) (sym c.in-Some.ensures.lookup.0) in
    let here : slice_get xs i ≡ Some x = ap (λ zs. slice_get zs i) (sym c.as_slice.ensures) ∙ slice_get-get_or ys i x low ∙ ap (λ y. Some y) (sym c.in-Some.ensures.lookup.1) in
    rw (map_get routine_of xs i x here) c.add_numbered.ensures

use Rattle.std.proofs.Common.{◌≡◌, ◌<◌, length, Some, arith, ap, ◌∙◌, map}
use Rattle.std.specs.Prelude.{slice_get}
use Rattle.image_format.specs.Stands.{tree_in}
use Rattle.valid_image.specs.Tables.{tree_waits}
use Rattle.loader.specs.Waits.{bare}
use Rattle.loader.proofs.Needs.{read}
use Rattle.loader.proofs.Waiting.{next_row, all_rows}
use Rattle.loader.proofs.handlers.waits_table.Goals as goal

pub loop-routine-preserved : goal.loop-routine-preserved
loop-routine-preserved c =
    let raw = c.args.raw.now in
    let r = c.loop-routine.routine-index in
    let x = c.routine-item.result in
    let waits = c.loop-routine.waits in
    let items = c.as_slice-routine-items.ensures in
    let low : r < length c.as_slice-routine-items.result.now = omega arith in
    let at : slice_get raw.routines r ≡ Some x = read c.as_slice-routine-items.result.now raw.routines r x items low c.routine-item.is in
    let next : c.tree_waits-next.result ≡ tree_waits (map bare waits) x.tree =
    c.tree_waits-next.ensures ∙ ap (λ ws. tree_waits (map bare ws) (tree_in c.view.result)) c.as_slice.ensures ∙ ap (λ t. tree_waits (map bare waits) t) c.view.ensures in
    next_row raw waits _ c.tree_waits-next.result r x c.loop-routine.invariant at next c.in_ok-push.ensures.ok

pub returns : goal.returns
returns c = all_rows c.args.raw.now c.loop-routine.waits c.loop-routine.routine-index c.loop-routine.invariant (omega (arith, c.loop-routine-test.false, c.loop-routine.auto.routine-index-end, ap length c.as_slice-routine-items.ensures))

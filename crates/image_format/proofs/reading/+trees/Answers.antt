use Rattle.std.proofs.Common.{refl}
use Rattle.std.proofs.lemmas.Result.{err_from_is_err_and}
use Rattle.machine_semantics.specs.Trees.{Seg}
use Rattle.image_format.specs.Format.{Format}
use Rattle.image_format.specs.TreeFormat.{seg_format, tree_format, within_limits}
use Rattle.image_format.specs.Rows.{row_read}
use Rattle.image_format.specs.Stands.{nesting, tree_in}
use Rattle.image_format.proofs.Rows.{fails, goes_on, is_done, went_well}
use Rattle.image_format.proofs.reading.+trees.Goals as goal

pub row_at-returns-in_err-rest-clause-read : goal.row_at-returns-in_err-rest-clause-read
row_at-returns-in_err-rest-clause-read t c =
    let f : Format Seg = seg_format (within_limits c.args.limits) (tree_format (within_limits c.args.limits) c.args.depth) in
    let p = err_from_is_err_and c.from_residual.result c.from_residual.ensures.1 in
    rw (p.1, p.2) (fails f c.in_err-rest.field-0.0 c.args.count c.loop.counter c.loop.rest.now (row_read c.args.limits c.args.depth c.args.count c.args.bytes.now) c.loop-test.true c.in_err-rest.ensures.read c.loop.invariant)

pub row_at-loop-preserved : goal.row_at-loop-preserved
row_at-loop-preserved t c =
    let f : Format Seg = seg_format (within_limits c.args.limits) (tree_format (within_limits c.args.limits) c.args.depth) in
    goes_on f c.args.count c.loop.counter c.loop.rest.now _ _ _ c.loop-test.true c.in_ok-rest.ensures.read c.loop.invariant

pub row_at-invariant_of-row : goal.row_at-invariant_of-row
row_at-invariant_of-row t c =
    let f : Format Seg = seg_format (within_limits c.args.limits) (tree_format (within_limits c.args.limits) c.args.depth) in
    record { are_read = went_well _ _ _ (is_done f c.args.count c.loop.counter c.loop.rest.now (row_read c.args.limits c.args.depth c.args.count c.args.bytes.now) c.loop-test.false c.loop.invariant) }

pub row_at-returns-clause-read : goal.row_at-returns-clause-read
unfolding tree_in
row_at-returns-clause-read t c =
    let f : Format Seg = seg_format (within_limits c.args.limits) (tree_format (within_limits c.args.limits) c.args.depth) in
    is_done f c.args.count c.loop.counter c.loop.rest.now (row_read c.args.limits c.args.depth c.args.count c.args.bytes.now) c.loop-test.false c.loop.invariant

pub row_at-returns-clause-nests : goal.row_at-returns-clause-nests
unfolding nesting
row_at-returns-clause-nests t c = refl

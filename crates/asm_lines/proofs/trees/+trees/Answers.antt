use Rattle.std.proofs.Common.{◌≡◌, [], ◌∷◌, sym, ◌∙◌, arith}
use Rattle.std.proofs.lemmas.List.{length-append}
use Rattle.std.proofs.lemmas.Result.{err_from_is_err_and}
use Rattle.machine_semantics.specs.Trees.{Seg, Nil, Cons}
use Rattle.image_format.specs.View.{view, views}
use Rattle.image_format.proofs.TreeLoop.{join, views-push}
use Rattle.text_fields.specs.Front.{Front, Read, front}
use Rattle.asm_lines.specs.Trees.{seg_read, segs_read, tree_read}
use Rattle.asm_lines.proofs.FitLoop.{all_push, rows_fit}
use Rattle.asm_lines.proofs.SegLoop.{ends, fails, goes_on, runs_out}
use Rattle.asm_lines.proofs.trees.+trees.Goals as goal

pub segs_at-returns-in_err-seg-clause-read : goal.segs_at-returns-in_err-seg-clause-read
segs_at-returns-in_err-seg-clause-read t c =
    let one : Front → Read Seg = seg_read c.args.monitors (tree_read c.args.monitors c.args.depth) in
    let p = err_from_is_err_and c.from_residual.result c.from_residual.ensures.1 in
    rw (p.1, p.2) (fails one c.in_err-seg.field-0.0 (views c.loop.segs) c.args.most c.loop.counter (front c.loop.place) (segs_read one c.args.most (front c.args.at)) c.loop-test.true (sym c.tree_ends.ensures ∙ c.if-tree_ends.false) c.in_err-seg.ensures.read c.loop.invariant.read)

pub segs_at-returns-then-tree_ends-clause-read : goal.segs_at-returns-then-tree_ends-clause-read
segs_at-returns-then-tree_ends-clause-read t c =
    let one : Front → Read Seg = seg_read c.args.monitors (tree_read c.args.monitors c.args.depth) in
    ends one (views c.loop.segs) c.args.most c.loop.counter (front c.loop.place) (segs_read one c.args.most (front c.args.at)) c.loop-test.true (sym c.tree_ends.ensures ∙ c.if-tree_ends.true) c.loop.invariant.read

pub segs_at-loop-preserved : goal.segs_at-loop-preserved
segs_at-loop-preserved t c =
    let one : Front → Read Seg = seg_read c.args.monitors (tree_read c.args.monitors c.args.depth) in
    let s = c.in_ok-seg.seg in
    let e : views c.push.new.self ≡ join (views c.loop.segs) (Cons (view s) Nil) = rw c.in_ok-push.ensures.ok (views-push c.loop.segs s) in
    record {
      read = rw e (goes_on one (views c.loop.segs) c.args.most c.loop.counter (front c.loop.place) (view s) (front c.in_ok-seg.after) (segs_read one c.args.most (front c.args.at)) c.loop-test.true (sym c.tree_ends.ensures ∙ c.if-tree_ends.false) c.in_ok-seg.ensures.read c.loop.invariant.read);
      few = rw c.in_ok-push.ensures.ok (omega (arith, length-append c.loop.segs (s ∷ []), c.loop.invariant.few));
      fits = rw c.in_ok-push.ensures.ok (all_push c.loop.segs s c.loop.invariant.fits c.in_ok-seg.ensures.fits);
    }

pub segs_at-returns-clause-read : goal.segs_at-returns-clause-read
segs_at-returns-clause-read t c =
    let one : Front → Read Seg = seg_read c.args.monitors (tree_read c.args.monitors c.args.depth) in
    runs_out one (views c.loop.segs) c.args.most c.loop.counter (front c.loop.place) (segs_read one c.args.most (front c.args.at)) c.loop-test.false c.loop.invariant.read

pub segs_at-returns-then-tree_ends-clause-fits : goal.segs_at-returns-then-tree_ends-clause-fits
segs_at-returns-then-tree_ends-clause-fits t c = rows_fit c.loop.segs (omega (arith, c.loop.invariant.few, c.loop-test.true, c.requires)) c.loop.invariant.fits

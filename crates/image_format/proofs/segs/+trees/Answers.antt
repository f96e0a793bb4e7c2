use Rattle.std.proofs.Common.{◌≡◌, ◌<◌, ◌-◌, ℕ, suc, List, Result, ap, ◌∙◌, arith, Ok}
use Rattle.std.proofs.lemmas.Result.{err_from_is_err_and}
use Rattle.machine_semantics.specs.Trees.{Seg, Nil, Cons}
use Rattle.image_format.specs.View.{view, views}
use Rattle.image_format.specs.declared.fault.ByteFault.{ByteFault}
use Rattle.image_format.specs.declared.limits.Limits.{Limits}
use Rattle.image_format.specs.Format.{◌>>=◌, Format, u32}
use Rattle.image_format.specs.TreeFormat.{seg_format, segs_read, tree_format, within_limits}
use Rattle.image_format.proofs.TreeLoop.{goes_on, ends, is_done, join, views-push}
use Rattle.image_format.proofs.segs.+trees.Goals as goal

pub segs_at-returns-in_err-seg : goal.segs_at-returns-in_err-seg
segs_at-returns-in_err-seg t c =
    let f : Format Seg = seg_format (within_limits c.args.limits) (tree_format (within_limits c.args.limits) c.args.depth) in
    let p = err_from_is_err_and c.from_residual.result c.from_residual.ensures.1 in
    rw (p.1, p.2) (ends f c.in_err-seg.field-0.0 (views c.loop.segs) c.args.count c.loop.counter c.loop.rest.now (segs_read f c.args.count c.args.bytes.now) c.loop-test.true c.in_err-seg.ensures c.loop.invariant)

pub segs_at-loop-preserved : goal.segs_at-loop-preserved
segs_at-loop-preserved t c =
    let f : Format Seg = seg_format (within_limits c.args.limits) (tree_format (within_limits c.args.limits) c.args.depth) in
    let s = c.in_ok-seg.seg in
    let e : views c.push.new.self ≡ join (views c.loop.segs) (Cons (view s) Nil) = rw c.in_ok-push.ensures.ok (views-push c.loop.segs s) in
    rw e (goes_on f (views c.loop.segs) c.args.count c.loop.counter c.loop.rest.now (view s) c.in_ok-seg.after.now (segs_read f c.args.count c.args.bytes.now) c.loop-test.true c.in_ok-seg.ensures c.loop.invariant)

pub segs_at-returns : goal.segs_at-returns
segs_at-returns t c =
    let f : Format Seg = seg_format (within_limits c.args.limits) (tree_format (within_limits c.args.limits) c.args.depth) in
    is_done f (views c.loop.segs) c.args.count c.loop.counter c.loop.rest.now (segs_read f c.args.count c.args.bytes.now) c.loop-test.false c.loop.invariant

-- a tree at a depth above 0 is a row of segments of one less
deeper : (limits : Limits) (depth count : ℕ) (bytes rest : List ℕ) → 0 < depth → u32.read bytes ≡ Ok (count, rest)
    → (tree_format (within_limits limits) depth).read bytes ≡ segs_read (seg_format (within_limits limits) (tree_format (within_limits limits) (depth - 1))) count rest
unfolding tree_format
deeper limits depth count bytes rest pos number =
    let k : depth ≡ suc (depth - 1) = omega arith in
    ap (λ d. (tree_format (within_limits limits) d).read bytes) k ∙ ap (λ (r : Result (ℕ × List ℕ) ByteFault). r >>= λ n. segs_read (seg_format (within_limits limits) (tree_format (within_limits limits) (depth - 1))) n.0 n.1) number

pub tree_at-returns : goal.tree_at-returns
tree_at-returns t c = rw (deeper c.args.limits c.args.depth c.in_ok-count.count c.args.bytes.now c.in_ok-count.rest.now (omega (arith, c.if-depth-eq0.false)) c.in_ok-count.ensures) c.segs_at.ensures

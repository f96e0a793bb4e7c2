use Rattle.std.proofs.Common.{◌≡◌, ◌+◌, ◌-◌, ◌*◌}
use Rattle.image_format.specs.View.{views}
use Rattle.image_format.specs.TreeFormat.{seg_format, segs_read, tree_format, within_limits}
use Rattle.image_format.proofs.TreeLoop.{with_front}
use Rattle.image_format.proofs.segs.+trees.Given as goal

abbrev pub decreases-tagged_at : goal.decreases-tagged_at
decreases-tagged_at l = 4 * l.depth + 1

abbrev pub decreases-seg_at : goal.decreases-seg_at
decreases-seg_at l = 4 * l.depth + 2

abbrev pub decreases-segs_at : goal.decreases-segs_at
decreases-segs_at l = 4 * l.depth + 3

abbrev pub decreases-tree_at : goal.decreases-tree_at
decreases-tree_at l = 4 * l.depth

abbrev pub invariant-segs_at-loop : goal.invariant-segs_at-loop
invariant-segs_at-loop l =
    with_front (views l.segs) (segs_read (seg_format (within_limits l.limits) (tree_format (within_limits l.limits) l.depth)) (l.count - l.counter) l.rest)
    ≡ segs_read (seg_format (within_limits l.limits) (tree_format (within_limits l.limits) l.depth)) l.count l.bytes

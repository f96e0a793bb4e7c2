use Rattle.std.proofs.Common.{◌≡◌, ◌+◌, ◌-◌, ◌*◌}
use Rattle.image_format.specs.Rows.{left_of, row_read}
use Rattle.image_format.proofs.reading.+trees.Given as goal

abbrev pub decreases-tagged_at : goal.decreases-tagged_at
decreases-tagged_at l = 4 * l.depth + 1

abbrev pub decreases-item_at : goal.decreases-item_at
decreases-item_at l = 4 * l.depth + 2

abbrev pub decreases-row_at : goal.decreases-row_at
decreases-row_at l = 4 * l.depth + 3

abbrev pub decreases-tree_at : goal.decreases-tree_at
decreases-tree_at l = 4 * l.depth

abbrev pub invariant-row_at-loop : goal.invariant-row_at-loop
invariant-row_at-loop l = left_of (row_read l.limits l.depth (l.count - l.counter) l.rest) ≡ left_of (row_read l.limits l.depth l.count l.bytes)

use Rattle.std.proofs.Common.{◌≡◌, ◌≤◌, ◌+◌, ◌-◌, ◌*◌, length}
use Rattle.image_format.specs.TreeBytes.{AllRowsFit}
use Rattle.image_format.specs.View.{views}
use Rattle.text_fields.specs.Front.{front}
use Rattle.asm_lines.specs.Trees.{seg_read, segs_read, tree_read}
use Rattle.asm_lines.proofs.SegLoop.{with_front}
use Rattle.asm_lines.proofs.trees.+trees.Given as goal

abbrev pub decreases-tree_at : goal.decreases-tree_at
decreases-tree_at l = 5 * l.depth

abbrev pub decreases-arm_at : goal.decreases-arm_at
decreases-arm_at l = 5 * l.depth + 1

abbrev pub decreases-fork_at : goal.decreases-fork_at
decreases-fork_at l = 5 * l.depth + 2

abbrev pub decreases-rep_at : goal.decreases-rep_at
decreases-rep_at l = 5 * l.depth + 2

abbrev pub decreases-stay_at : goal.decreases-stay_at
decreases-stay_at l = 5 * l.depth + 2

abbrev pub decreases-seg_at : goal.decreases-seg_at
decreases-seg_at l = 5 * l.depth + 3

abbrev pub decreases-segs_at : goal.decreases-segs_at
decreases-segs_at l = 5 * l.depth + 4

abbrev pub invariant-segs_at-loop : goal.invariant-segs_at-loop
invariant-segs_at-loop l = record {
  read :
      with_front (views l.segs) (segs_read (seg_read l.monitors (tree_read l.monitors l.depth)) (l.most - l.counter) (front l.place))
      ≡ segs_read (seg_read l.monitors (tree_read l.monitors l.depth)) l.most (front l.at);
  few : length l.segs ≤ l.counter;
  fits : AllRowsFit (views l.segs);
}

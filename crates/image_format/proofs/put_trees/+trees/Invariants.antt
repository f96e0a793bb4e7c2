use Rattle.std.proofs.Common.{◌≡◌, ◌≤◌, ◌++◌, ◌+◌, ◌*◌, ◌^◌, drop, length}
use Rattle.image_format.specs.View.{views}
use Rattle.image_format.specs.TreeBytes.{AllRowsFit, segs_bytes}
use Rattle.image_format.specs.TreeFormat.{seg_format, segs_is, widest, within_limits}
use Rattle.image_format.specs.Whole.{any_tree}
use Rattle.image_format.proofs.put_trees.+trees.Given as goal

abbrev pub decreases-put_seg : goal.decreases-put_seg
decreases-put_seg l = 2 * l.depth + 1

abbrev pub decreases-put_tree : goal.decreases-put_tree
decreases-put_tree l = 2 * l.depth

abbrev pub invariant-put_tree-loop-seg : goal.invariant-put_tree-loop-seg
invariant-put_tree-loop-seg l = record {
  rows : AllRowsFit (views (drop l.seg-index l.tree));
  room : 2 ^ 64 ≤ 4 * l.below + length l.out.items;
  written : l.out.items ++ segs_bytes (views (drop l.seg-index l.tree)) ≡ l.initial.out.items ++ segs_bytes (views l.tree);
  fits : segs_is (seg_format (within_limits widest) (any_tree l.below)) (views (drop l.seg-index l.tree)) ≡ segs_is (seg_format (within_limits widest) (any_tree l.below)) (views l.tree);
}

use Rattle.std.proofs.Common.{◌≡◌, ◌≤◌, ◌+◌, ◌*◌}
use Rattle.machine_semantics.specs.Trees.{size}
use Rattle.image_format.specs.Stands.{inner_nesting, nesting, segments_left, tree_in}
use Rattle.loader_code.proofs.tree_cost.+ends.Given as goal

abbrev pub decreases-item_end : goal.decreases-item_end
decreases-item_end l = 2 * inner_nesting l.item.now

abbrev pub decreases-tree_end : goal.decreases-tree_end
decreases-tree_end l = 2 * nesting l.tree + 1

abbrev pub invariant-tree_end-loop-item : goal.invariant-tree_end-loop-item
invariant-tree_end-loop-item l = record {
  left : l.end + size (tree_in l.rest) ≡ l.at + size (tree_in l.tree);
  within : l.end ≤ l.limit;
  nests : nesting l.rest ≡ nesting l.tree;
}

abbrev pub decreases-tree_end-loop-item : goal.decreases-tree_end-loop-item
decreases-tree_end-loop-item l = segments_left l.rest

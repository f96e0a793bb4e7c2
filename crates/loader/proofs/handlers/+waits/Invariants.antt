use Rattle.std.proofs.Common.{◌≡◌, ◌+◌, ◌*◌, map}
use Rattle.image_format.specs.Stands.{inner_nesting, nesting, segments_left, tree_in}
use Rattle.valid_image.specs.Tables.{tree_waits}
use Rattle.loader.specs.Waits.{bare}
use Rattle.loader.proofs.handlers.+waits.Given as goal

abbrev pub decreases-item_waits : goal.decreases-item_waits
decreases-item_waits l = 2 * inner_nesting l.item.now

abbrev pub decreases-tree_waits : goal.decreases-tree_waits
decreases-tree_waits l = 2 * nesting l.tree + 1

abbrev pub invariant-tree_waits-loop-item : goal.invariant-tree_waits-loop-item
invariant-tree_waits-loop-item l = record {
  rest : tree_waits (map bare l.waits) (tree_in l.rest) ≡ tree_waits (map bare l.waits) (tree_in l.tree);
  nests : nesting l.rest ≡ nesting l.tree;
}

abbrev pub decreases-tree_waits-loop-item : goal.decreases-tree_waits-loop-item
decreases-tree_waits-loop-item l = segments_left l.rest

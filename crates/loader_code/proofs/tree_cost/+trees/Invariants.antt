use Rattle.std.proofs.Common.{◌≡◌, ◌+◌, ◌*◌, map}
use Rattle.machine_semantics.specs.Trees.{size}
use Rattle.loader_code.specs.TreesTold.{EndsAt, found_of, known_of}
use Rattle.image_format.specs.Stands.{inner_nesting, nesting, segments_left, tree_in}
use Rattle.valid_image.specs.Found.{founds, joined}
use Rattle.valid_image_law.specs.Held.{hold}
use Rattle.loader_code.proofs.tree_cost.+trees.Given as goal

abbrev pub decreases-item_found : goal.decreases-item_found
decreases-item_found l = 2 * inner_nesting l.item.now

abbrev pub decreases-tree_found : goal.decreases-tree_found
decreases-tree_found l = 2 * nesting l.tree + 1

abbrev pub invariant-tree_found-loop-item : goal.invariant-tree_found-loop-item
invariant-tree_found-loop-item l = record {
  rest : hold (joined (found_of l.so_far) (founds l.code (map known_of l.known) l.around.out l.around.held (tree_in l.rest) l.so_far.next l.so_far.height)) ≡ hold (founds l.code (map known_of l.known) l.around.out l.around.held (tree_in l.tree) l.at l.height);
  left : l.so_far.next + size (tree_in l.rest) ≡ l.at + size (tree_in l.tree);
  ends : EndsAt l.code l.so_far.next l.so_far;
  nests : nesting l.rest ≡ nesting l.tree;
}

abbrev pub decreases-tree_found-loop-item : goal.decreases-tree_found-loop-item
decreases-tree_found-loop-item l = segments_left l.rest

use Rattle.std.proofs.Common.{◌≡◌, ◌++◌, List, ap, ◌∙◌}
use Rattle.image_format.specs.View.{views}
use Rattle.image_format.specs.TreeBytes.{tree_bytes}
use Rattle.image_format.specs.Whole.{deepest_kept}
use Rattle.image_format.proofs.Wholes.{stands}
use Rattle.image_format.proofs.tree.SegTree.of.Goals as goal

pub invariant_of-result : goal.invariant_of-result
invariant_of-result c =
    let are : c.put_tree.new.out.items ≡ tree_bytes (views c.args.segs.now) = c.in_ok-put_tree.ensures.written ∙ ap (λ (front : List _). front ++ tree_bytes (views c.args.segs.now)) c.new-bytes.ensures.items in
    (stands deepest_kept c.put_tree.new.out.items (views c.args.segs.now) are c.in_ok-put_tree.ensures.fits).is_tree

pub returns : goal.returns
returns c =
    let are : c.put_tree.new.out.items ≡ tree_bytes (views c.args.segs.now) = c.in_ok-put_tree.ensures.written ∙ ap (λ (front : List _). front ++ tree_bytes (views c.args.segs.now)) c.new-bytes.ensures.items in
    (stands deepest_kept c.put_tree.new.out.items (views c.args.segs.now) are c.in_ok-put_tree.ensures.fits).same

use Rattle.std.proofs.Common.{◌≡◌, true, [], subst}
use Rattle.machine_semantics.specs.Trees.{Segs}
use Rattle.image_format.specs.FormatLaw.{AreBytes}
use Rattle.image_format.specs.TreeFormat.{widest}
use Rattle.image_format.proofs.Trees.{limited_tree_sound}
use Rattle.image_format.specs.Whole.{any_tree, deepest_kept, tree_of}
use Rattle.image_format.proofs.tree.SegTree.can_be_read.Goals as goal

pub returns : goal.returns
returns c =
    let same : c.as_slice.result.now ≡ c.self.inside.bytes.items = cc in
    let are : AreBytes c.self.inside.bytes.items = subst AreBytes same c.are_bytes.ensures in
    let fits : (any_tree deepest_kept).is (tree_of deepest_kept c.self.inside.bytes.items) ≡ true =
    ((limited_tree_sound widest deepest_kept).back c.self.inside.bytes.items (tree_of deepest_kept c.self.inside.bytes.items, []) are c.self.invariant.is_read).1 in
    subst (λ (t : Segs). (any_tree deepest_kept).is t ≡ true) c.self.view_is fits

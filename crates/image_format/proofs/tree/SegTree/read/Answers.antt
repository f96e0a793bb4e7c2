use Rattle.std.proofs.Common.{◌≡◌, Ok, sym, ap, ◌∙◌, subst, arith}
use Rattle.machine_semantics.specs.Trees.{Segs}
use Rattle.image_format.specs.TreeFormat.{tree_format, within_limits}
use Rattle.image_format.specs.Stands.{tree_in}
use Rattle.image_format.specs.Whole.{IsTree, deepest_kept, tree_of}
use Rattle.image_format.proofs.Widest.{taken}
use Rattle.image_format.proofs.tree.SegTree.read.Goals as goal

pub slice_bounds-taken-count : goal.slice_bounds-taken-count
slice_bounds-taken-count c = (taken c.args.limits c.from.result deepest_kept c.args.bytes.now (tree_in c.in_ok-_view._view) c.in_ok-_view.rest.now (omega (arith, c.from.ensures, c.well_formed.1.1.0)) c.are_bytes.ensures c.in_ok-_view.ensures.read).fewer

pub invariant_of-result : goal.invariant_of-result
invariant_of-result c =
    let t = taken c.args.limits c.from.result deepest_kept c.args.bytes.now (tree_in c.in_ok-_view._view) c.in_ok-_view.rest.now (omega (arith, c.from.ensures, c.well_formed.1.1.0)) c.are_bytes.ensures c.in_ok-_view.ensures.read in
    subst (IsTree deepest_kept) (sym c.in_ok-bytes.ensures.items) t.stands.is_tree

pub returns : goal.returns
returns c =
    let t = taken c.args.limits c.from.result deepest_kept c.args.bytes.now (tree_in c.in_ok-_view._view) c.in_ok-_view.rest.now (omega (arith, c.from.ensures, c.well_formed.1.1.0)) c.are_bytes.ensures c.in_ok-_view.ensures.read in
    let same : tree_of deepest_kept c.in_ok-bytes.bytes.items ≡ tree_in c.in_ok-_view._view = ap (tree_of deepest_kept) c.in_ok-bytes.ensures.items ∙ t.stands.same in
    ap (λ d. (tree_format (within_limits c.args.limits) d).read c.args.bytes.now) (sym c.from.ensures) ∙ c.in_ok-_view.ensures.read ∙ ap (λ (tree : Segs). Ok (tree, c.in_ok-_view.rest.now)) (sym same)

use Rattle.std.proofs.Common.{◌<◌, refl, arith}
use Rattle.image_format.specs.Format.{Format}
use Rattle.image_format.specs.TreeFormat.{seg_format, tree_format, within_limits}
use Rattle.machine_semantics.specs.Trees.{Seg}
use Rattle.image_format.specs.Stands.{item_in, nesting, segments_left, tree_in}
use Rattle.image_format.proofs.Rows.{never, none_left, splits}
use Rattle.image_format.proofs.view.SegBytes.split_first.Goals as goal

pub returns-then-self-eq0-clause-tree : goal.returns-then-self-eq0-clause-tree
unfolding tree_in
returns-then-self-eq0-clause-tree c =
    none_left (seg_format (within_limits c.args.self.limits) (tree_format (within_limits c.args.self.limits) c.args.self.depth)) c.args.self.count c.args.self.bytes.now c.if-self-eq0.true

pub returns-then-self-eq0-clause-nests : goal.returns-then-self-eq0-clause-nests
unfolding segments_left
returns-then-self-eq0-clause-nests c = c.if-self-eq0.true

pub invariant_of-rest : goal.invariant_of-rest
invariant_of-rest c =
    let f : Format Seg = seg_format (within_limits c.args.self.limits) (tree_format (within_limits c.args.self.limits) c.args.self.depth) in
    let pos : 0 < c.args.self.count = omega (arith, c.if-self-eq0.false) in
    record { are_read = (splits f c.args.self.count c.args.self.bytes.now (item_in c.in-Ok.item) c.in-Ok.bytes.now pos c.in-Ok.ensures.read c.args.self.are_read).rest_read }

pub unreachable-requires : goal.unreachable-requires
unreachable-requires c =
    let f : Format Seg = seg_format (within_limits c.args.self.limits) (tree_format (within_limits c.args.self.limits) c.args.self.depth) in
    let pos : 0 < c.args.self.count = omega (arith, c.if-self-eq0.false) in
    never f c.in-Err.field-0 c.args.self.count c.args.self.bytes.now pos c.in-Err.ensures.read c.args.self.are_read

pub returns-clause-tree : goal.returns-clause-tree
unfolding tree_in
returns-clause-tree c =
    let f : Format Seg = seg_format (within_limits c.args.self.limits) (tree_format (within_limits c.args.self.limits) c.args.self.depth) in
    let pos : 0 < c.args.self.count = omega (arith, c.if-self-eq0.false) in
    (splits f c.args.self.count c.args.self.bytes.now (item_in c.in-Ok.item) c.in-Ok.bytes.now pos c.in-Ok.ensures.read c.args.self.are_read).tree

pub returns-clause-nests : goal.returns-clause-nests
unfolding nesting segments_left
returns-clause-nests c = (c.in-Ok.ensures.nests, refl, omega (arith, c.if-self-eq0.false))

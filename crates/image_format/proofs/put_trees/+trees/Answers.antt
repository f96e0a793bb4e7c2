use Rattle.std.proofs.Common.{arith}
use Rattle.image_format.proofs.PutRows.{row-views, tree_fits, tree_written}
use Rattle.image_format.proofs.put_trees.+trees.Goals as goal

pub put_tree-overflow_cast-tree : goal.put_tree-overflow_cast-tree
put_tree-overflow_cast-tree t c = omega (arith, c.requires.rows.0, row-views c.args.tree.now)

pub put_tree-returns-clause-written : goal.put_tree-returns-clause-written
put_tree-returns-clause-written t c =
    tree_written c.loop-seg.out.items c.args.out.now.items c.put_u32.new.out.items c.args.tree.now c.loop-seg.seg-index c.loop-seg-test.false
    c.in_ok-put_u32.ensures c.loop-seg.invariant.written

pub put_tree-returns-clause-fits : goal.put_tree-returns-clause-fits
put_tree-returns-clause-fits t c =
    tree_fits c.args.depth c.args.tree.now c.loop-seg.seg-index (omega (arith, c.requires.room, c.len-bytes.ensures, c.len-bytes.type_inv)) c.requires.rows.0 c.loop-seg-test.false c.loop-seg.invariant.fits

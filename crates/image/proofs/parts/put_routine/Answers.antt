use Rattle.std.proofs.Common.{◌++◌}
use Rattle.image.specs.Bytes.{cost_bytes, owner_bytes}
use Rattle.image_format.specs.TreeBytes.{tree_bytes}
use Rattle.image.specs.Raw.{routine_of}
use Rattle.image.proofs.Chain.{after}
use Rattle.image.proofs.parts.put_routine.Goals as goal

pub returns : goal.returns
returns c =
    let r = routine_of c.args.routine.now in
    let tree = tree_bytes r.tree in
    let end = c.put_tree.new.out.items in
    after (owner_bytes r) (cost_bytes r ++ tree) c.args.out.now.items c.put_owner.new.out.items end c.in_ok-put_owner.ensures
    (after (cost_bytes r) tree c.put_owner.new.out.items c.put_cost.new.out.items end c.in_ok-put_cost.ensures c.in_ok-put_tree.ensures)
